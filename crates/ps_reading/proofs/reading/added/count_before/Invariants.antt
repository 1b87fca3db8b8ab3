use Rattle.ps_reading.proofs.BySlot.{AreBefore}
use Rattle.ps_reading.proofs.reading.added.count_before.Given as goal

-- no segment so far is of a later slot
abbrev pub invariant-loop-count : goal.invariant-loop-count
invariant-loop-count l = AreBefore l.slot l.count l.segments
