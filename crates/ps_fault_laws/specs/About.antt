-- What a fault is about, said by its parts: the record that is at fault, or else the slot.
-- Source: UCSD Pascal II.0 manual, code file format; which name a fault has is this project's
-- profile.
use Rattle.std.specs.Prelude.{◌≡◌, ◌⊎◌, ◌≤◌, ℕ, List, Option, Some, None, slice_get}
use Rattle.ps_words.specs.FaultText.{number_of}
use Rattle.ps_words.specs.declared.fault.Fault.{Fault}
use Rattle.ps_words.specs.declared.order.Order.{Order}
use Rattle.ps_codefile.specs.Dictionary.{entry_at}
use Rattle.ps_codefile.specs.declared.entry.Role.TheVariants.{Empty}
use Rattle.ps_linkinfo.specs.declared.record.LinkRecord.{LinkRecord as Record}
use Rattle.ps_reading.specs.Added.{empty_slots}
use Rattle.ps_reading.specs.Sources.{order_of}
use Rattle.ps_reading.specs.Standing.Slots.{HasRole}
use Rattle.ps_reading.specs.declared.reading.added.UnitReference.{UnitReference}
use Rattle.ps_resolve.specs.Standing.Rounds.{IsRequested}
use Rattle.ps_resolve.specs.Standing.Segments.{SomeSegment}

-- the fault is that a record cannot be read, by its number
abbrev pub IsOfUnread : Fault → Type 0
IsOfUnread f = (19 ≤ number_of f.reason) × (number_of f.reason ≤ 23)

-- the fault is reported with this record, which was read
abbrev pub HasRecord : Fault → ℕ → Type 0
HasRecord f rec = (f.rec ≡ Some rec) × (IsOfUnread f → ⊥)

-- the fault is reported with this slot, and with no record that was read
abbrev pub HasSlotAlone : Fault → ℕ → Type 0
HasSlotAlone f slot = (f.slot ≡ Some slot) × ((f.rec ≡ None) ⊎ IsOfUnread f)

-- record `rec` of the segment that is in the slot of the fault, from the file at fault, has this
-- name
abbrev pub IsNameInRecord : Order → List ℕ → List (List ℕ) → Fault → ℕ → List ℕ
    → Type 0
IsNameInRecord order host libs f rec name =
    SomeSegment order host libs (λ s. (f.file ≡ s.file) × (f.slot ≡ Some s.slot)
    × (r : Record) × (slice_get s.records rec ≡ Some r) × (r.name ≡ name))

-- a slot that is not empty has the name of its entry: of the segment, or of the unit that it wants
abbrev pub IsNameOfEntry : Order → List ℕ → ℕ → List ℕ → Type 0
IsNameOfEntry order host slot name = (HasRole order host slot Empty → ⊥)
    × ((entry_at order host slot).name ≡ name)

-- an empty slot has the name of the unit that is requested for it: the k-th name that is looked up
-- takes the k-th empty slot
abbrev pub IsNameRequested : Order → List ℕ → List (List ℕ) → ℕ → List ℕ → Type 0
IsNameRequested order host libs slot name = (k : ℕ) × (g : UnitReference)
    × IsRequested order host libs k g × (slice_get (empty_slots order host) k ≡ Some slot)
    × (g.name ≡ name)

-- the slot has this name
abbrev pub IsNameOfSlot : Order → List ℕ → List (List ℕ) → ℕ → List ℕ → Type 0
IsNameOfSlot order host libs slot name =
    IsNameOfEntry order host slot name ⊎ IsNameRequested order host libs slot name

-- The fault of these files is about what has this name. With a record that was read, it is about
-- what the record names: the unit that it requests, the symbol or the variable. With a slot and no
-- such record it is about the segment of the slot, or the unit that the slot wants or that is
-- requested for it. Without a slot it is about a whole file, and no name.
pub record IsAbout (host : List ℕ) (libs : List (List ℕ)) (f : Fault)
    (name : Option (List ℕ)) : Type 0 where
  pub in_record : (rec : ℕ) → HasRecord f rec
      → (of : List ℕ) × IsNameInRecord (order_of host) host libs f rec of × (name ≡ Some of)
  pub in_slot : (slot : ℕ) → HasSlotAlone f slot
      → (of : List ℕ) × IsNameOfSlot (order_of host) host libs slot of × (name ≡ Some of)
  pub of_file : f.slot ≡ None → name ≡ None
