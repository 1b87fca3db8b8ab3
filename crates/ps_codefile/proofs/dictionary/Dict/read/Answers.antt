use Rattle.std.proofs.Common.{rules}
use Rattle.ps_codefile.proofs.dictionary.Dict.read.Goals as goal

pub returns-in-false-false : goal.returns-in-false-false
returns-in-false-false c = search rules
