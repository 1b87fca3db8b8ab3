use Rattle.std.proofs.Common.{arith}
use Rattle.ps_codefile.proofs.dictionary.Dict.code.Goals as goal

pub returns : goal.returns
returns c = search arith
