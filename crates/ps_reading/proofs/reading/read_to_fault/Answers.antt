use Rattle.ps_reading.proofs.Vocabulary.{◌∙◌, None, sym, contents}
use Rattle.ps_reading.proofs.ReadingSlots.{first_own, units_last}
use Rattle.ps_reading.proofs.reading.read_to_fault.Goals as goal

pub returns-in-Some-clause-first : goal.returns-in-Some-clause-first
returns-in-Some-clause-first c =
    let host = c.args.host.now in
    sym (first_own host.order host.file (contents c.args.libs.now) c.in-Some.fault
    (sym c.read_own.ensures.first ∙ c.in-Some.is))

pub returns-in-None-clause-first : goal.returns-in-None-clause-first
returns-in-None-clause-first c =
    let host = c.args.host.now in
    units_last host.order host.file (contents c.args.libs.now) None c.read_added.result.fault
    (sym c.in-None.is ∙ c.read_own.ensures.first) c.read_added.ensures.ends
