use Rattle.ps_reading.proofs.Vocabulary.{◌≡◌, ◌≤◌, ◌++◌, length, drop, units_of}
use Rattle.ps_reading.proofs.reading.unit_slots.UnitSlots.of.Given as goal

-- the units so far and those that are left are all
abbrev pub invariant-loop-segment : goal.invariant-loop-segment
invariant-loop-segment l = record {
  all : l.by_name.items ++ units_of (drop l.segment-index l.segments) ≡ units_of l.segments;
  few : length l.by_name.items ≤ l.segment-index;
}
