use Rattle.std.proofs.Common.{string_bytes}
use Rattle.std.proofs.lemmas.List.{append_assoc}
use Rattle.std.proofs.lemmas.Result.{on_ok_weaker}
use Rattle.ps_explained.proofs.LineOfSegment.{adds_segment}
use Rattle.ps_explained.proofs.overview.add_line.Goals as goal

pub returns-clause-text : goal.returns-clause-text
returns-clause-text g c = on_ok_weaker c.push_line.result (λ added. rw added (simp append_assoc))
    c.push_line.ensures

pub returns-clause-lines : goal.returns-clause-lines
returns-clause-lines g c = let h = c.args.head in
    on_ok_weaker c.push_line.result
    (adds_segment h.slot h.name h.part c.args.path.now c.args.index c.args.size
    (string_bytes c.args.text.now) (string_bytes c.push_line.new.text) c.utf8.path) (returns-clause-text g c)
