use Rattle.std.proofs.Common.{rules}
use Rattle.ps_resolve.proofs.lone.lone_fault.Goals as goal

pub returns-in-Some-Err-clause-fault : goal.returns-in-Some-Err-clause-fault
returns-in-Some-Err-clause-fault g c = search rules
