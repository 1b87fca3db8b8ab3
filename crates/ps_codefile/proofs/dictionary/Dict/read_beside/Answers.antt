use Rattle.std.proofs.Common.{rules}
use Rattle.ps_codefile.proofs.dictionary.Dict.read_beside.Goals as goal

pub returns-in_default : goal.returns-in_default
returns-in_default c = search rules
