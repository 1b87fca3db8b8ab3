use Rattle.std.proofs.Common.{arith, append-nil}
use Rattle.ps_writing.proofs.Written.{adds_first}
use Rattle.ps_writing.proofs.memory.in_memory.Goals as goal

pub returns-in-None : goal.returns-in-None
returns-in-None g c = grind (arith, adds_first, append-nil)
