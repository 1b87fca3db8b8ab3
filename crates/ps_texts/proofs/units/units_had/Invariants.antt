use Rattle.std.proofs.Common.{◌≡◌, ◌-◌, ◌++◌}
use Rattle.std.specs.List.{filter_map, range_with_len}
use Rattle.ps_texts.specs.UnitNames.{units_had, had_name}
use Rattle.ps_codefile.specs.declared.dictionary_layout.TheConstants.{SLOTS}
use Rattle.ps_texts.proofs.units.units_had.Given as goal

-- the names so far and those of the slots that are left are all
abbrev pub invariant-loop-slot : goal.invariant-loop-slot
invariant-loop-slot g l = units_had l.dict.order l.dict.file
    ≡ l.names.items ++ filter_map (had_name l.dict.order l.dict.file)
    (range_with_len l.slot (SLOTS - l.slot))
