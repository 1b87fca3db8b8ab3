use Rattle.std.proofs.Common.{rules}
use Rattle.ps_codefile.proofs.entry.Entry.role.Goals as goal

pub returns-then-self-eq0-2 : goal.returns-then-self-eq0-2
returns-then-self-eq0-2 c = search rules
