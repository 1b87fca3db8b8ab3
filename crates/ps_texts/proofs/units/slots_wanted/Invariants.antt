use Rattle.std.proofs.Common.{◌≡◌, ◌-◌}
use Rattle.std.specs.List.{filter_map, range_with_len}
use Rattle.ps_texts.specs.UnitNames.{slots_wanted, wanted_name, with_each}
use Rattle.ps_codefile.specs.declared.dictionary_layout.TheConstants.{SLOTS}
use Rattle.ps_texts.proofs.units.slots_wanted.Given as goal

-- the names so far with those of the slots that are left are all
abbrev pub invariant-loop-slot : goal.invariant-loop-slot
invariant-loop-slot g l = slots_wanted l.host.order l.host.file
    ≡ with_each l.names.items (filter_map (wanted_name l.host.order l.host.file)
    (range_with_len l.slot (SLOTS - l.slot)))
