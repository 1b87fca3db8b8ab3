use Rattle.std.proofs.Common.{rules}
use Rattle.ps_patch.proofs.patcher.store_part.Goals as goal

pub returns-else-width-eq2 : goal.returns-else-width-eq2
returns-else-width-eq2 c = search rules
