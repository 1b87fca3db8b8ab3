use Rattle.ps_reading.proofs.Vocabulary.{◌≡◌, ℕ, ◌-◌, option_map, range_with_len, in_slot, first_of, slot_reason, slots_fault, SLOTS}
use Rattle.ps_reading.proofs.reading.slots.slots_fault.Given as goal

-- the first fault is that of the slots from here on
abbrev pub invariant-loop-slot : goal.invariant-loop-slot
invariant-loop-slot l =
    slots_fault l.host.order l.host.file
    ≡ first_of (λ (s : ℕ). option_map (in_slot 0 s)
    (slot_reason l.host.order l.host.file s)) (range_with_len l.slot (SLOTS - l.slot))
