use Rattle.std.proofs.Common.{arith}
use Rattle.ps_codefile.proofs.opening.has_code_in.Goals as goal

pub returns-in-Ok : goal.returns-in-Ok
returns-in-Ok c = grind arith
