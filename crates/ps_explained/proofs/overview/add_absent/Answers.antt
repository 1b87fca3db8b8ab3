use Rattle.std.proofs.Common.{string_bytes}
use Rattle.std.proofs.lemmas.List.{append_assoc}
use Rattle.std.proofs.lemmas.Result.{on_ok_weaker}
use Rattle.ps_explained.proofs.LineOfSegment.{adds_absent}
use Rattle.ps_explained.proofs.overview.add_absent.Goals as goal

pub returns-clause-text : goal.returns-clause-text
returns-clause-text g c = on_ok_weaker c.push_absent.result (λ added. rw added (simp append_assoc))
    c.push_absent.ensures

pub returns-clause-lines : goal.returns-clause-lines
returns-clause-lines g c = let h = c.args.head in
    on_ok_weaker c.push_absent.result
    (adds_absent h.slot h.name h.part c.args.unread c.args.absent (string_bytes c.args.text.now)
    (string_bytes c.push_absent.new.text)) (returns-clause-text g c)
