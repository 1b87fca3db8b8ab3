-- Which parts a fault that applies is reported with: the slot, the record, the reference, and the
-- file that is at fault.
use Rattle.std.specs.Prelude.{◌≡◌, ◌≢◌, ◌↔◌, ℕ, ◌≤◌, List, Some, None, is_some, true}
use Rattle.ps_words.specs.FaultPlaces.{has_slot, has_record, has_reference, is_of_host, is_of_library}
use Rattle.ps_words.specs.FaultText.{number_of}
use Rattle.ps_words.specs.declared.order.Order.{Order}
use Rattle.ps_words.specs.declared.fault.Fault.{Fault}
use Rattle.ps_codefile.specs.Dictionary.{entry_at}
use Rattle.ps_codefile.specs.declared.entry.Role.TheVariants.{Wanted}
use Rattle.ps_reading.specs.Standing.Slots.{HasRole}
use Rattle.ps_resolve.specs.Standing.Sources.{NoneHas}

-- the slot of the host wants a unit that no library has
abbrev pub WantsMissing : Order → List ℕ → List (List ℕ) → ℕ → Type 0
WantsMissing order host libs slot = HasRole order host slot Wanted
    × NoneHas order (entry_at order host slot).name libs

-- A fault has just the parts that its number is reported with. That a unit is missing (13) is
-- reported of a slot of the host alone where that slot wants the unit, and otherwise of the record
-- that requests it, in the file of that record. No fault has the number 30, which is no longer
-- used.
pub record HasItsParts (order : Order) (host : List ℕ) (libs : List (List ℕ))
    (f : Fault) : Type 0 where
  pub used : number_of f.reason ≢ 30
  pub slot : is_some f.slot ≡ has_slot (number_of f.reason)
  pub rec : number_of f.reason ≢ 13 → is_some f.rec ≡ has_record (number_of f.reason)
  pub missing : number_of f.reason ≡ 13
      → (f.rec ≡ None) ↔ ((slot : ℕ) × (f.slot ≡ Some slot)
      × WantsMissing order host libs slot)
  pub reference : is_some f.reference ≡ has_reference (number_of f.reason)
  pub of_host : is_of_host (number_of f.reason) ≡ true
      → (number_of f.reason ≡ 13 → f.rec ≡ None) → f.file ≡ 0
  pub of_library : is_of_library (number_of f.reason) ≡ true → 1 ≤ f.file
