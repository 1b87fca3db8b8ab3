use Rattle.std.proofs.Common.{◌≡◌, drop, bytes_eq}
use Rattle.std.specs.Map.{lookup}
use Rattle.ps_reading.proofs.reading.unit_slots.UnitSlots.slot_of.Given as goal

-- the name is looked for in what is left
abbrev pub invariant-loop-unit : goal.invariant-loop-unit
invariant-loop-unit l = lookup (bytes_eq l.name) (drop l.unit-index l.unit-items)
    ≡ lookup (bytes_eq l.name) l.fn.self
