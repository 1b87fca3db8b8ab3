use Rattle.std.proofs.Common.{ap, sym}
use Rattle.std.proofs.Output.{has_written_of_eq}
use Rattle.ps_warnings.specs.FindingTexts.{record_text}
use Rattle.ps_warnings.proofs.finding.RecordFindingDisplay.fmt.Goals as goal

pub returns-in-HighDefinition-clause-writes : goal.returns-in-HighDefinition-clause-writes
unfolding record_text
returns-in-HighDefinition-clause-writes g c = λ plain ok.
    has_written_of_eq _ _ _ _ _ (ap record_text (sym c.in-HighDefinition.is))
    (c.write-in-HighDefinition.ensures.writes plain ok)

pub returns-in-PastPublic-clause-writes : goal.returns-in-PastPublic-clause-writes
unfolding record_text
returns-in-PastPublic-clause-writes g c = λ plain ok.
    has_written_of_eq _ _ _ _ _ (ap record_text (sym c.in-PastPublic.is))
    (c.write-in-PastPublic.ensures.writes plain ok)

pub returns-in-OwnDefinition-clause-writes : goal.returns-in-OwnDefinition-clause-writes
unfolding record_text
returns-in-OwnDefinition-clause-writes g c = λ plain ok.
    has_written_of_eq _ _ _ _ _ (ap record_text (sym c.in-OwnDefinition.is))
    (c.write-in-OwnDefinition.ensures.writes plain ok)
