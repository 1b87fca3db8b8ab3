-- The name that is computed for a slot or a record of a host that is opened.
use Rattle.ps_laws.proofs.Vocabulary.{◌≡◌, ◌∙◌, ◌<◌, ℕ, List, Option, Some, None, Result, Ok, Err, arith, refl, sym, slice_get, unwrap_or, Fault, Reason, Order, entry_at, opened_alone, SLOTS, Role, Record, request_of, Segment, order_of, HasRole, UnitReference}
use Rattle.ps_words.specs.FaultPlaces.{read_record}
use Rattle.ps_codefile.specs.Dictionary.{OpenedFile}
use Rattle.ps_codefile.specs.declared.entry.Role.TheVariants as role
use Rattle.ps_reading.specs.FaultNames.{fault_name, host_slot, name_at, name_by_role, name_in_record, name_in_slot}
use Rattle.ps_reading.specs.Faults.{host_fault, libraries_fault}
use Rattle.ps_reading.specs.Readings.{HostFiles, opened_host, slot_request}
use Rattle.ps_reading.proofs.NamesRead.{named_in_slot}
use Rattle.ps_reading.proofs.ReadingHosts.{host_is}
use Rattle.ps_reading.proofs.ReadingSlots.{libraries_are}
use Rattle.ps_fault_laws.proofs.ReadSegments.{IsReadIn}

-- the name of a slot whose role is not Empty is that of its entry
by_entry : (name other : List ℕ) (r : Result Role Reason) → (r ≡ Ok role.Empty → ⊥)
    → unwrap_or (name_by_role name r) other ≡ name
by_entry name other (Ok role.Empty) filled = absurd (filled refl)
by_entry name other r filled = refl

by_request : (name other : List ℕ) (r : Result Role Reason) → r ≡ Ok role.Empty
    → unwrap_or (name_by_role name r) other ≡ other
by_request name other r empty = rw empty refl

in_range : (slot : ℕ) (f : Fault) → f.slot ≡ Some slot → slot < SLOTS
    → host_slot f ≡ Some slot
in_range slot f e h = rw e (grind arith)

module _ (host : List ℕ) (libs : List (List ℕ)) where
  abbrev order : Order
  order = order_of host

  abbrev files : HostFiles
  files = record { order = order_of host; file = host; libs = libs }

  -- a host that has no fault by itself is opened
  pub opened : host_fault host ≡ None → opened_host host libs ≡ Ok files
  opened fine = by (opened_alone host) refl
    where
      by : (r : Result OpenedFile Reason) → opened_alone host ≡ r
          → opened_host host libs ≡ Ok files
      by (Err why) e = absurd (let t = rw e at fine in cc)
      by (Ok o) e = rw (e, opened_host, host_is host o e) refl

  module _ (fine : host_fault host ≡ None) (f : Fault) (slot : ℕ) (at : f.slot ≡ Some slot)
      (inside : slot < SLOTS) where
    -- the name of a fault with this slot
    named : (rec : Option ℕ) → read_record f ≡ rec
        → fault_name host libs f ≡ name_at files slot rec
    named rec is = sym (named_in_slot host libs f slot rec (name_at files slot rec) (sym is)
        (in_range slot f at inside) (rw (opened fine) refl))

    -- without a record that was read: the name of the entry, where the slot is not empty
    pub named_by_entry : read_record f ≡ None → (HasRole order host slot role.Empty → ⊥)
        → fault_name host libs f ≡ Some (entry_at order host slot).name
    named_by_entry none filled =
        named None none ∙ rw (by_entry (entry_at order host slot).name _ _ filled) refl

    module _ (whole : libraries_fault order libs ≡ None) where
      -- and else that of the unit that is requested there
      pub named_by_request : read_record f ≡ None → HasRole order host slot role.Empty
          → (g : UnitReference) → slot_request order host libs slot ≡ Some (request_of g slot)
          → fault_name host libs f ≡ Some g.name
      named_by_request none empty g requested = named None none
          ∙ rw (
            by_request (entry_at order host slot).name (name_in_slot files slot) _ empty,
            in_slot,
          ) refl
        where
          in_slot : name_in_slot files slot ≡ g.name
          in_slot = rw (libraries_are order host libs whole, requested) refl

      -- with a record that was read: the name in the record of the segment that was read there
      pub named_by_record : (s : Segment) → IsReadIn order host libs slot s → (rec : ℕ)
          → read_record f ≡ Some rec → (r : Record) → slice_get s.records rec ≡ Some r
          → fault_name host libs f ≡ Some r.name
      named_by_record s there rec read r is = named (Some rec) read ∙ in_record
        where
          in_record : name_in_record files slot rec ≡ Some r.name
          in_record = rw (libraries_are order host libs whole, there, is) refl
