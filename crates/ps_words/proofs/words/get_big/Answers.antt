use Rattle.std.proofs.Common.{rules}
use Rattle.ps_words.proofs.words.get_big.Goals as goal

pub returns : goal.returns
returns c = search rules
