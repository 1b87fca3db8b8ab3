use Rattle.ps_reading.proofs.Vocabulary.{◌≡◌, ◌<◌, ◌≤◌, ◌+◌, ◌-◌, ◌++◌, length, All, filter, range_with_len, is_empty, empty_slots, is_role, FIRST_ADDED, SLOTS}
use Rattle.ps_reading.proofs.reading.added.empty_slots.Given as goal

-- the slots so far and the empty ones of those that are left are all
abbrev pub invariant-loop-slot : goal.invariant-loop-slot
invariant-loop-slot l = record {
  all : empty_slots l.host.order l.host.file
      ≡ l.slots.items ++ filter (is_role is_empty l.host.order l.host.file)
      (range_with_len l.slot (SLOTS - l.slot));
  in_range : All (λ slot. slot < SLOTS) l.slots.items;
  few : length l.slots.items + FIRST_ADDED ≤ l.slot;
}
