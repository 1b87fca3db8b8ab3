use Rattle.std.proofs.Common.{ap, sym}
use Rattle.std.proofs.Output.{has_written_of_eq}
use Rattle.ps_warnings.specs.FindingTexts.{dictionary_text}
use Rattle.ps_warnings.proofs.finding.DictionaryFindingDisplay.fmt.Goals as goal

pub returns-in-DeadTail-clause-writes : goal.returns-in-DeadTail-clause-writes
unfolding dictionary_text
returns-in-DeadTail-clause-writes g c = λ plain ok.
    has_written_of_eq _ _ _ _ _ (ap dictionary_text (sym c.in-DeadTail.is))
    (c.write.ensures.writes plain ok)

pub returns-in-IntrinsicKind-clause-writes : goal.returns-in-IntrinsicKind-clause-writes
unfolding dictionary_text
returns-in-IntrinsicKind-clause-writes g c = λ plain ok.
    has_written_of_eq _ _ _ _ _ (ap dictionary_text (sym c.in-IntrinsicKind.is))
    (c.write-in-IntrinsicKind.ensures.writes plain ok)

pub returns-in-LeftOutWord-clause-writes : goal.returns-in-LeftOutWord-clause-writes
unfolding dictionary_text
returns-in-LeftOutWord-clause-writes g c = λ plain ok.
    has_written_of_eq _ _ _ _ _ (ap dictionary_text (sym c.in-LeftOutWord.is))
    (c.write-in-LeftOutWord.ensures.writes plain ok)
