use Rattle.std.proofs.Common.{rules}
use Rattle.ps_writing.proofs.counts.Counts.count.Goals as goal

pub returns-then-taken-eq0 : goal.returns-then-taken-eq0
returns-then-taken-eq0 c = search rules

pub returns-else-taken-eq0 : goal.returns-else-taken-eq0
returns-else-taken-eq0 c = search rules
