-- Faults of the units that only a unit names, each of which is added in a round of its own.
use Rattle.std.specs.Prelude.{◌≡◌, ◌⊎◌, ℕ, ◌≤◌, List, length, slice_get, take, true, Some, None}
use Rattle.ps_codefile.specs.Dictionary.{entry_at, is_nameless}
use Rattle.ps_reading.specs.Sources.{unit_source, file_at}
use Rattle.ps_reading.specs.Added.{added_segments, requested_units, empty_slots}
use Rattle.ps_reading.specs.declared.reading.added.UnitReference.{UnitReference}
use Rattle.ps_words.specs.FaultPlaces.{in_record}
use Rattle.ps_words.specs.declared.order.Order.{Order}
use Rattle.ps_words.specs.declared.fault.Fault.{Fault}
use Rattle.ps_codefile.specs.declared.entry.Role.TheVariants as role
use Rattle.ps_words.specs.declared.fault.Reason.TheVariants as reason
use Rattle.ps_resolve.specs.Standing.Sources.{NoneHas, EntryFault, CodeFault}

-- 6. a unit that only a unit names
-- the name that is looked up in round k, where each of the rounds before it added a segment
abbrev pub IsRequested : Order → List ℕ → List (List ℕ) → ℕ → UnitReference → Type 0
IsRequested order host libs k g = (k ≤ length (added_segments order host libs))
    × (slice_get (requested_units order host libs (take k (added_segments order host libs))) k
    ≡ Some g)

-- nothing has this name, or no library has an entry of it
abbrev pub IsMissing : Order → List (List ℕ) → List ℕ → Type 0
IsMissing order libs name = (is_nameless name ≡ true) ⊎ NoneHas order name libs

-- what is wrong with the unit of a name in its slot: the library's entries, or its code
abbrev pub PlacedFault : Order → List ℕ → List (List ℕ) → List ℕ → ℕ → Fault
    → Type 0
PlacedFault order host libs name slot f =
    EntryFault order name libs slot f
    ⊎ ((at : ℕ × ℕ) × (unit_source order name libs ≡ Some at)
    × CodeFault order (file_at host libs at.0) at.0
    (entry_at order (file_at host libs at.0) at.1) slot role.Wanted f)

-- the unit is missing, or no slot is left for it, or the slot's unit has a fault
abbrev pub InRound : Order → List ℕ → List (List ℕ) → ℕ → Fault → Type 0
InRound order host libs k f =
    (g : UnitReference) × IsRequested order host libs k g
    × (((f ≡ in_record g.at.segment.file g.at.segment.slot g.at.rec reason.MissingUnit)
    × IsMissing order libs g.name)
    ⊎ (((f ≡ in_record g.at.segment.file g.at.segment.slot g.at.rec reason.NoSlot)
    × (slice_get (empty_slots order host) k ≡ None))
    ⊎ ((slot : ℕ) × (slice_get (empty_slots order host) k ≡ Some slot)
    × PlacedFault order host libs g.name slot f)))
