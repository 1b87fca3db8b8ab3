use Rattle.ps_listing.proofs.Vocabulary.{◌≡◌, ◌-◌, ◌++◌, filter_map, range_with_len, lone_unit, units_of, SLOTS}
use Rattle.ps_listing.proofs.lone.units_of.Given as goal

-- the units so far and those of the slots that are left are all
abbrev pub invariant-loop-slot : goal.invariant-loop-slot
invariant-loop-slot g l = units_of l.file
    ≡ l.units.items ++ filter_map (lone_unit l.file) (range_with_len l.slot (SLOTS - l.slot))
