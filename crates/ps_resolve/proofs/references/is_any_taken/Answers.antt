use Rattle.std.proofs.Common.{rules}
use Rattle.ps_resolve.proofs.references.is_any_taken.Goals as goal

pub returns-else-is_taken : goal.returns-else-is_taken
returns-else-is_taken g c = search rules
