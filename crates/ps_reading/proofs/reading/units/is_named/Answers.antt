use Rattle.std.proofs.Common.{arith}
use Rattle.ps_reading.proofs.reading.units.is_named.Goals as goal

pub returns-then-filled : goal.returns-then-filled
returns-then-filled c = search arith
