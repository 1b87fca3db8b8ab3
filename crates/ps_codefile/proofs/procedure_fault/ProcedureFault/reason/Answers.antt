use Rattle.std.proofs.Common.{rules}
use Rattle.ps_codefile.proofs.procedure_fault.ProcedureFault.reason.Goals as goal

pub returns-in-Native : goal.returns-in-Native
returns-in-Native c = search rules
