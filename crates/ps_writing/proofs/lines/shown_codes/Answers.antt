use Rattle.std.proofs.Common.{arith}
use Rattle.ps_writing.proofs.ShownNames.{eight}
use Rattle.ps_writing.proofs.lines.shown_codes.Goals as goal

pub returns : goal.returns
returns c = grind (arith, eight)
