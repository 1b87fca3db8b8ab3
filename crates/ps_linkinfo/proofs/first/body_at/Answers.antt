use Rattle.ps_linkinfo.proofs.Vocabulary.{arith}
use Rattle.ps_linkinfo.proofs.first.body_at.Goals as goal

pub returns-in-11-clause-bad : goal.returns-in-11-clause-bad
returns-in-11-clause-bad c = search arith
