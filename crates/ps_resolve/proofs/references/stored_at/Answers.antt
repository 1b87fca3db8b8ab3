use Rattle.std.proofs.Common.{rules}
use Rattle.ps_resolve.proofs.references.stored_at.Goals as goal

pub returns-else-value-clause-edit : goal.returns-else-value-clause-edit
returns-else-value-clause-edit c = search rules
