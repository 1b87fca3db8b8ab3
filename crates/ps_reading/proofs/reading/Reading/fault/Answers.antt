use Rattle.ps_reading.proofs.Vocabulary.{◌∙◌, Some, sym, ap, Fault, contents, reading_fault, ReadFiles}
use Rattle.ps_reading.proofs.ReadingSlots.{fault_of_none}
use Rattle.ps_reading.proofs.reading.Reading.fault.Goals as goal

pub returns-in-Err : goal.returns-in-Err
returns-in-Err c =
    ap (λ (f : Fault). Some f) c.in_file.ensures
    ∙ (sym (fault_of_none c.self.inside.file.now (contents c.self.inside.libs.now) c.in-Err.reason
    (sym c.self.invariant ∙ c.in-Err.is))
    ∙ ap (λ (v : ReadFiles). reading_fault v.host v.libs) c.self.view_is)
