use Rattle.ps_linkfile.proofs.Vocabulary.{arith}
use Rattle.ps_linkfile.proofs.Blocks.{laid_more}
use Rattle.ps_linkfile.proofs.Views.{here, size_at}
use Rattle.ps_linkfile.proofs.block_layout.layout_of.Goals as goal

pub loop-source-preserved : goal.loop-source-preserved
loop-source-preserved c = grind (arith, laid_more, here, size_at)
