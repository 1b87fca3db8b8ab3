use Rattle.ps_reading.proofs.Vocabulary.{arith, sym, Segment, contents, opened_files, IsRead, is_in_slot}
use Rattle.ps_reading.proofs.EachSegment.{find_has}
use Rattle.ps_reading.proofs.reading.HostReading.segment.Goals as goal

pub returns-in-Some-segment_in-clause-sound : goal.returns-in-Some-segment_in-clause-sound
returns-in-Some-segment_in-clause-sound c =
    let inside = c.self.inside in
    let IsReadHere : Segment → Type 0 =
    IsRead inside.slots.order inside.slots.file
    (opened_files inside.slots.order (contents inside.libs.now)) in
    let has = find_has IsReadHere (is_in_slot c.args.slot) c.as_slice.result.now
    c.in-Some-segment_in.segment.now (sym c.in-Some-segment_in.ensures)
    (rw c.as_slice.ensures.value c.self.invariant.read) in
    grind arith
