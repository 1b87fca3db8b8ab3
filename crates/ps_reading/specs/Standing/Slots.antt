-- Faults of the slots of the host's segment dictionary.
use Rattle.std.specs.Prelude.{◌≡◌, ◌⊎◌, ℕ, ◌<◌, List, Ok, Err}
use Rattle.ps_codefile.specs.Dictionary.{entry_at, role_of}
use Rattle.ps_codefile.specs.declared.entry.Role.{Role}
use Rattle.ps_words.specs.FaultPlaces.{in_file, in_slot}
use Rattle.ps_words.specs.declared.order.Order.{Order}
use Rattle.ps_words.specs.declared.fault.Reason.{Reason}
use Rattle.ps_words.specs.declared.fault.Fault.{Fault}
use Rattle.ps_codefile.specs.declared.entry.Role.TheVariants as role
use Rattle.ps_words.specs.declared.fault.Reason.TheVariants as reason
use Rattle.ps_reading.specs.Standing.Phrases.{Because, SomeBelow}
use Rattle.ps_codefile.specs.declared.dictionary_layout.TheConstants.{SLOTS}

-- the slot of the host has this role
abbrev pub HasRole : Order → List ℕ → ℕ → Role → Type 0
HasRole order host slot r = role_of (entry_at order host slot) ≡ Ok r

-- the slot is that of a unit, which is in place in the host or is wanted from a library
abbrev pub IsUnitSlot : Order → List ℕ → ℕ → Type 0
IsUnitSlot order host slot = HasRole order host slot role.Unit
    ⊎ HasRole order host slot role.Wanted

-- A slot has role Host and so has a smaller one, or it is that of a unit whose name a smaller one
-- has, or its entry has no role, for this reason.
abbrev pub SlotHas : Order → List ℕ → ℕ → Reason → Type 0
SlotHas order host slot reason.TwoHosts =
    HasRole order host slot role.Host × SomeBelow slot
    (λ other. HasRole order host other role.Host)
SlotHas order host slot reason.DoubledSegment =
    IsUnitSlot order host slot
    × SomeBelow slot (λ other. IsUnitSlot order host other
    × ((entry_at order host other).name ≡ (entry_at order host slot).name))
SlotHas order host slot why = role_of (entry_at order host slot) ≡ Err why

-- a fault of one of the slots, reported with it
abbrev pub InSlots : Order → List ℕ → Fault → Type 0
InSlots order host f =
    SomeBelow SLOTS (λ slot. Because (in_slot 0 slot) (SlotHas order host slot) f)

-- no slot has role Host
abbrev pub InNoHost : Order → List ℕ → Fault → Type 0
InNoHost order host f = (f ≡ in_file 0 reason.NoHost)
    × ((slot : ℕ) → slot < SLOTS → HasRole order host slot role.Host → ⊥)
