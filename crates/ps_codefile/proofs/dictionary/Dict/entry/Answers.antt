use Rattle.std.proofs.Common.{rules}
use Rattle.ps_codefile.proofs.dictionary.Dict.entry.Goals as goal

pub returns : goal.returns
returns c = search rules
