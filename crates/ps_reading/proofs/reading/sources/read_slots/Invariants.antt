use Rattle.ps_reading.proofs.Vocabulary.{◌≡◌, ◌≤◌, ◌-◌, ◌++◌, length, map, All, filter_map, range_with_len, opened, source_fault, read_segment, read_segments, IsRead, SLOTS}
use Rattle.ps_reading.proofs.reading.sources.read_slots.Given as goal

-- the segments so far and those of the slots that are left are all, and the faults so far
abbrev pub invariant-loop-slot : goal.invariant-loop-slot
invariant-loop-slot g l =
    let order = l.host.order in
    let host = l.host.file in
    let libs = opened order l.libs in
    record {
      faults : g.F.SlotFaults.has_taken l.faults
          (map (source_fault order host libs) (range_with_len 0 l.slot));
      all : read_segments order host libs ≡ l.segments.items
          ++ filter_map (read_segment order host libs) (range_with_len l.slot (SLOTS - l.slot));
      read : All (IsRead order host libs) l.segments.items;
      few : length l.segments.items ≤ l.slot;
    }
