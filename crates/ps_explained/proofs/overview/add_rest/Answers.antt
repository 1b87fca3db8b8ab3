use Rattle.std.proofs.Common.{[], string_bytes}
use Rattle.std.proofs.lemmas.Result.{on_ok_weaker}
use Rattle.ps_explained.proofs.SlotLines.{adds_then_none}
use Rattle.ps_explained.proofs.overview.add_rest.Goals as goal

pub returns-clause-lines : goal.returns-clause-lines
returns-clause-lines g c = on_ok_weaker c.add_unused.result
    (adds_then_none (string_bytes c.args.text.now) (string_bytes c.add_empty.new.text)
    (string_bytes c.add_unused.new.text) [] c.in_ok-add_empty.ensures.lines)
    c.add_unused.ensures.lines
