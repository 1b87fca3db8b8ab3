use Rattle.ps_reading.proofs.Vocabulary.{◌≡◌, drop, find, is_in_slot}
use Rattle.ps_reading.proofs.reading.segment_in.Given as goal

-- the segment is looked for in what is left
abbrev pub invariant-loop-segment : goal.invariant-loop-segment
invariant-loop-segment l = find (is_in_slot l.slot) l.segments
    ≡ find (is_in_slot l.slot) (drop l.segment-index l.segments)
