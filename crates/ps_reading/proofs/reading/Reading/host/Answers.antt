use Rattle.ps_reading.proofs.Vocabulary.{◌∙◌, sym, ap, ReadFiles, opened_host}
use Rattle.ps_reading.proofs.reading.Reading.host.Goals as goal

pub returns-in-Err-clause-refused : goal.returns-in-Err-clause-refused
returns-in-Err-clause-refused c = ap (λ (v : ReadFiles). opened_host v.host v.libs)
    (sym c.self.view_is) ∙ (sym c.self.invariant ∙ c.in-Err.is)
