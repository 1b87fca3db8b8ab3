use Rattle.ps_reading.proofs.Vocabulary.{◌≡◌, length, take, map, range_with_len, slot_name, SLOT_COUNT}
use Rattle.ps_reading.proofs.reading.slot_names.Given as goal

-- the names so far
abbrev pub invariant-loop-slot : goal.invariant-loop-slot
invariant-loop-slot l = record {
  all : length l.names ≡ SLOT_COUNT;
  done : take l.slot l.names ≡ map (slot_name l.host.file l.segments) (range_with_len 0 l.slot);
}
