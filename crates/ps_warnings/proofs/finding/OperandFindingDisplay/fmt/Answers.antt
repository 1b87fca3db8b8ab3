use Rattle.std.proofs.Common.{ap, sym}
use Rattle.std.proofs.Output.{has_written_of_eq}
use Rattle.ps_warnings.specs.FindingTexts.{operand_text}
use Rattle.ps_warnings.proofs.finding.OperandFindingDisplay.fmt.Goals as goal

pub returns-in-OtherCount-clause-writes : goal.returns-in-OtherCount-clause-writes
unfolding operand_text
returns-in-OtherCount-clause-writes g c = λ plain ok.
    has_written_of_eq _ _ _ _ _ (ap operand_text (sym c.in-OtherCount.is))
    (c.write-in-OtherCount.ensures.writes plain ok)
