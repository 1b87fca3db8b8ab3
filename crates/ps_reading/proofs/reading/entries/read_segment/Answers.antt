use Rattle.ps_reading.proofs.Vocabulary.{arith, entry_at}
use Rattle.ps_reading.proofs.ReadingCodes.{whole}
use Rattle.ps_reading.proofs.reading.entries.read_segment.Goals as goal

pub returns-in_ok-records-in-Ok-clause-segment : goal.returns-in_ok-records-in-Ok-clause-segment
returns-in_ok-records-in-Ok-clause-segment c = λ host libs there.
    let from = c.args.from.now in
    let is = whole from.file (entry_at from.order from.file c.args.index) c.in-Ok.code.now
    c.in-Ok.ensures in
    grind arith

pub returns-in_ok-records-in-Ok-clause-read : goal.returns-in_ok-records-in-Ok-clause-read
returns-in_ok-records-in-Ok-clause-read c = λ host libs there.
    let from = c.args.from.now in
    let is = whole from.file (entry_at from.order from.file c.args.index) c.in-Ok.code.now
    c.in-Ok.ensures in
    record { placed = grind arith; sound = grind arith }
