-- The slots of a host, as they are read one by one.
use Rattle.ps_reading.proofs.Vocabulary.{◌≡◌, length, take, map, range_with_len, entry_at, role_of, SLOT_COUNT}
use Rattle.ps_reading.proofs.reading.slots.HostSlots.of.Given as goal

-- the roles so far
abbrev pub invariant-loop-slot : goal.invariant-loop-slot
invariant-loop-slot l = record {
  all_roles : length l.roles ≡ SLOT_COUNT;
  roles : take l.slot l.roles ≡ map (λ s. role_of (entry_at l.dict.order l.dict.file s))
      (range_with_len 0 l.slot);
}
