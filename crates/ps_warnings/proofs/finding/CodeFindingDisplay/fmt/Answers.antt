use Rattle.std.proofs.Common.{ap, sym}
use Rattle.std.proofs.Output.{has_written_of_eq}
use Rattle.ps_warnings.specs.FindingTexts.{code_text}
use Rattle.ps_warnings.proofs.finding.CodeFindingDisplay.fmt.Goals as goal

pub returns-in-DeadRun-clause-writes : goal.returns-in-DeadRun-clause-writes
unfolding code_text
returns-in-DeadRun-clause-writes g c = λ plain ok.
    has_written_of_eq _ _ _ _ _ (ap code_text (sym c.in-DeadRun.is))
    (c.write-in-DeadRun.ensures.writes plain ok)

pub returns-in-OtherInfo-clause-writes : goal.returns-in-OtherInfo-clause-writes
unfolding code_text
returns-in-OtherInfo-clause-writes g c = λ plain ok.
    has_written_of_eq _ _ _ _ _ (ap code_text (sym c.in-OtherInfo.is))
    (c.write-in-OtherInfo.ensures.writes plain ok)
