use Rattle.ps_listing.proofs.Vocabulary.{◌≡◌, ◌-◌, ◌++◌, filter_map, range_with_len, slots, SLOTS}
use Rattle.ps_listing.specs.Listed.{segment_at}
use Rattle.ps_listing.proofs.segments.segments_in.Given as goal

-- the segments so far and those of the slots that are left are all
abbrev pub invariant-loop-slot : goal.invariant-loop-slot
invariant-loop-slot g l = filter_map (segment_at l.dict.order l.dict.file) slots
    ≡ l.list.items
    ++ filter_map (segment_at l.dict.order l.dict.file) (range_with_len l.slot (SLOTS - l.slot))
