use Rattle.ps_reading.proofs.Vocabulary.{◌∙◌, contents, opened}
use Rattle.ps_reading.proofs.ReadingSlots.{own_is}
use Rattle.ps_reading.proofs.ReadingSources.{first_of_slots}
use Rattle.ps_reading.proofs.reading.read_own.Goals as goal

pub returns-clause-first : goal.returns-clause-first
returns-clause-first c =
    let host = c.args.host.now in
    own_is host.order host.file (contents c.args.libs.now) c.files_fault.result
    c.read_slots.new.faults c.or.result c.or.ensures c.files_fault.ensures
    (c.read_slots.ensures.faults ∙ first_of_slots host.order host.file
    (opened host.order c.args.libs.now))
