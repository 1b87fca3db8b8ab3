use Rattle.std.proofs.Common.{rules}
use Rattle.ps_resolve.proofs.references.records.target_of.Goals as goal

pub returns-in-Constant : goal.returns-in-Constant
returns-in-Constant g c = search rules
