-- The unit of a request: its fault and its segment by the library that has it, and the request of a
-- slot that wants a unit.
use Rattle.ps_reading.proofs.Vocabulary.{arith, ◌≡◌, ℕ, List, Bool, true, false, ◌&&◌, not, Option, Some, None, Result, Ok, refl, sym, ◌∙◌, ap, if◌then◌else◌, find, option_and_then, option_map, result_ok, in_slot, OpenedFile, Order, Reason, slots, entry_at, kind_needs_linking, is_nameless, role_of, role_of_kind, Role, Segment, chosen_library, file_at, is_named, library_file, own_segment, segment_from, source_of, unit_source, code_fault, entries_reason, request_fault, source_fault, as_requested, is_missing, request_by_slot, requested_segment, IsRead, Request}
use Rattle.ps_codefile.specs.declared.entry.Role.TheVariants as role
use Rattle.ps_reading.specs.declared.reading.request.Requester.{Requester}
use Rattle.ps_reading.specs.declared.reading.request.Requester.TheVariants.{Slot}
use Rattle.ps_reading.proofs.FirstSlots.{some_mapped}
use Rattle.ps_reading.proofs.ReadingUnits.{kind_is}
use Rattle.ps_reading.proofs.ReadingLibraries.{chosen_file}

-- the unit of a name is entry i of this file, which is the library that was chosen
record IsUnitAt (order : Order) (host : List ℕ) (libs : List (List ℕ)) (name : List ℕ)
    (file i : ℕ) : Type 0 where
  number : ℕ
  chosen : chosen_library order name libs ≡ Some (number, file_at host libs file)
  file_is : file ≡ library_file number
  found : find (is_named order name (file_at host libs file)) slots ≡ Some i

-- the fault and the segment of a request, by the library's entry
module _ (order : Order) (host : List ℕ) (libs : List (List ℕ)) (r : Request) (file i : ℕ)
    (source : unit_source order r.name libs ≡ Some (file, i)) where
  unit_at : IsUnitAt order host libs r.name file i
  unit_at = by (chosen_library order r.name libs) refl source
    where
      by : (o : Option (ℕ × List ℕ)) → chosen_library order r.name libs ≡ o
          → option_and_then {U = ℕ × ℕ} (λ (lib : ℕ × List ℕ).
          option_map {U = ℕ × ℕ} (λ i. (library_file lib.0, i))
          (find (is_named order r.name lib.1) slots)) o ≡ Some (file, i)
          → IsUnitAt order host libs r.name file i
      by None is h = cc
      by (Some lib) is h =
          let m = some_mapped {Y = ℕ × ℕ} (λ (j : ℕ). (library_file lib.0, j))
          (find (is_named order r.name lib.1) slots) (file, i) h in
          let file_is : file ≡ library_file lib.0 = ap (λ (p : ℕ × ℕ). p.0) m.2 in
          let there : file_at host libs file ≡ lib.1 = ap (file_at host libs) file_is
          ∙ chosen_file order r.name libs lib.0 lib.1 host is in
          record {
            number = lib.0;
            chosen = rw there is;
            file_is = file_is;
            found = rw there (m.1 ∙ ap (λ (p : ℕ × ℕ). Some p.1) (sym m.2));
          }

  refused : (why : Reason) → is_missing order libs r.name ≡ false
      → entries_reason order r.name (file_at host libs file) ≡ Some why
      → request_fault order host libs r ≡ Some (in_slot file r.slot why)
  refused why m e = grind (arith, unit_at)

  taken : is_missing order libs r.name ≡ false
      → entries_reason order r.name (file_at host libs file) ≡ None
      → request_fault order host libs r
      ≡ code_fault order host libs r.slot role.Wanted (file, i)
  taken m e = grind (arith, unit_at)

  -- by the dictionary of the library
  module _ {d : OpenedFile}
      (dict : d ≡ record { order = order; file = file_at host libs file }) where
    pub found_at : find (is_named d.order r.name d.file) slots ≡ Some i
    found_at = rw dict unit_at.found

    pub needs_linking : entries_reason d.order r.name d.file ≡ None
        → kind_needs_linking (entry_at d.order d.file i).kind ≡ true
    needs_linking e = ap kind_needs_linking (kind_is d.order r.name d.file i e found_at)

    pub placed_refused : (why : Reason) → is_missing order libs r.name ≡ false
        → entries_reason d.order r.name d.file ≡ Some why
        → request_fault order host libs r ≡ Some (in_slot file r.slot why)
    placed_refused why m h = refused why m (rw dict at h)

    pub placed_by : is_missing order libs r.name ≡ false
        → entries_reason d.order r.name d.file ≡ None
        → code_fault d.order host libs r.slot role.Wanted (file, i)
        ≡ request_fault order host libs r
    placed_by m h = rw dict (sym (taken m (rw dict at h)))

    pub brought_by : requested_segment order host libs r ≡ option_map (as_requested r.requester)
        (segment_from d.order host libs r.slot r.name role.Wanted (file, i))
    brought_by = rw (dict, source) refl

-- a segment is read, also where it is marked as it is requested
pub read_marked : (order : Order) (host : List ℕ) (libs : List (List ℕ)) (by : Requester)
    (s : Segment) → IsRead order host libs s → IsRead order host libs (as_requested by s)
read_marked order host libs by s h = grind arith

-- a slot that wants a unit has its name
named : (p q z n : Bool) (kind : ℕ) → (if (p && q) && not n then Ok role.Wanted
    else (if p && q then Ok role.Empty else (if z then Ok role.Empty else role_of_kind kind)))
    ≡ Ok role.Wanted → n ≡ false
named p q z n kind h = grind arith

-- the request of a slot that wants a unit
module _ (order : Order) (host : List ℕ) (libs : List (List ℕ)) (slot : ℕ)
    (wants : role_of (entry_at order host slot) ≡ Ok role.Wanted) where
  abbrev pub wanted : Request
  wanted = request_by_slot order host slot

  -- its name is one
  pub has_name : is_nameless wanted.name ≡ false
  has_name = grind (arith, named)

  pub wanted_is : source_fault order host libs slot ≡ request_fault order host libs wanted
  wanted_is = grind arith

  pub wanted_segment : own_segment order host libs slot ≡ requested_segment order host libs wanted
  wanted_segment =
      ap (λ (q : Result Role Reason). option_and_then
      (λ r. option_and_then (segment_from order host libs slot wanted.name r)
      (source_of order host libs slot r)) (result_ok q)) wants
      ∙ by (option_and_then (segment_from order host libs slot wanted.name role.Wanted)
      (unit_source order wanted.name libs))
    where
      by : (o : Option Segment) → o ≡ option_map (as_requested Slot) o
      by o = grind arith
