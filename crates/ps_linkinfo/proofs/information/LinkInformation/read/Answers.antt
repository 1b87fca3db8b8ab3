use Rattle.ps_linkinfo.proofs.Vocabulary.{arith}
use Rattle.ps_linkinfo.proofs.information.LinkInformation.read.Goals as goal

pub returns-in-Some-clause-rec : goal.returns-in-Some-clause-rec
returns-in-Some-clause-rec c = search arith
