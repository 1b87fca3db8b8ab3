use Rattle.std.proofs.Common.{rules}
use Rattle.ps_words.proofs.words.blocks_of.Goals as goal

pub returns : goal.returns
returns c = search rules
