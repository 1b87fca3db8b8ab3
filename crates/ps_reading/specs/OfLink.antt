-- What is known of each segment of a link whose files were read without a fault.
use Rattle.std.specs.Prelude.{◌≡◌, ◌⊎◌, ◌<◌, ℕ, List, [], take, slice_get, true, false, Ok, Some, None, All}
use Rattle.ps_words.specs.declared.order.Order.{Order}
use Rattle.ps_codefile.specs.Dictionary.{entry_at, code_of, information_of}
use Rattle.ps_codefile.specs.Procedures.{tables_fault}
use Rattle.ps_codefile.specs.Roles.{needs_linking, is_host}
use Rattle.ps_codefile.specs.declared.entry.Role.TheVariants.{Wanted}
use Rattle.ps_linkinfo.specs.Records.{reading}
use Rattle.ps_reading.specs.Added.{added_segment, added_segments, empty_slots, placed_fault, requested_units, segment_at, segments}
use Rattle.ps_reading.specs.Faults.{role_fault}
use Rattle.ps_reading.specs.Sources.{Segment, file_at, host_of, information_block, order_of, own_segment, source_of, tables_of, unit_source}
use Rattle.ps_reading.specs.Standing.Slots.{HasRole}
use Rattle.ps_reading.specs.declared.reading.added.UnitReference.{UnitReference}
use Rattle.ps_codefile.specs.declared.dictionary_layout.TheConstants.{SLOTS}

-- its code is that of its entry of its file; where its references are resolved, its tables are
-- those of its code and have no fault, and its records are all that are in the blocks after it
pub record IsOfFile (order : Order) (host : List ℕ) (libs : List (List ℕ))
    (s : Segment) : Type 0 where
  pub code : let file = file_at host libs s.file in
      code_of file (entry_at order file s.index) ≡ Ok s.code
  pub tables : needs_linking s.role ≡ true → tables_fault order s.code (is_host s.role) ≡ None
  pub kept : s.tables ≡ tables_of order s.code (needs_linking s.role)
  pub block : s.block ≡ information_block (entry_at order (file_at host libs s.file) s.index)
      (needs_linking s.role)
  pub records : needs_linking s.role ≡ true → let file = file_at host libs s.file in
      reading order (information_of file (entry_at order file s.index)) ≡ (s.records, None)
  pub unread : needs_linking s.role ≡ false → s.records ≡ []

-- the host's dictionary has a slot for it, whose role and name it has; it is from the source of
-- that role, which has no fault
pub record IsOfSlot (order : Order) (host : List ℕ) (libs : List (List ℕ))
    (s : Segment) : Type 0 where
  pub own : own_segment order host libs s.slot ≡ Some s
  pub role : HasRole order host s.slot s.role
  pub name : s.name ≡ (entry_at order host s.slot).name
  pub source : source_of order host libs s.slot s.role ≡ Some (s.file, s.index)
  pub fits : role_fault order host libs s.slot s.role ≡ None
  pub not_added : s.added ≡ false

-- it was added in round j for the name of this reference, in the empty slot of the round
pub record IsOfRound (order : Order) (host : List ℕ) (libs : List (List ℕ)) (j : ℕ)
    (g : UnitReference) (s : Segment) : Type 0 where
  -- the segments that were added before it request the name, and so do all that were added
  pub earlier : slice_get (requested_units order host libs
      (take j (added_segments order host libs))) j ≡ Some g
  pub requested : slice_get (requested_units order host libs (added_segments order host libs)) j
      ≡ Some g
  pub there : slice_get (added_segments order host libs) j ≡ Some s
  pub slot : slice_get (empty_slots order host) j ≡ Some s.slot
  pub fits : placed_fault order host libs g s.slot ≡ None
  pub brought : added_segment order host libs g s.slot ≡ Some s
  -- it is the unit of the name in the libraries
  pub name : s.name ≡ g.name
  pub role : s.role ≡ Wanted
  pub is_added : s.added ≡ true
  pub source : unit_source order s.name libs ≡ Some (s.file, s.index)

-- A segment of a link: it is that of its slot, and if it is a host's, it is the only one.
pub record IsOfLink (order : Order) (host : List ℕ) (libs : List (List ℕ))
    (s : Segment) : Type 0 where
  pub slot : s.slot < SLOTS
  pub there : segment_at order host libs s.slot ≡ Some s
  pub file : IsOfFile order host libs s
  pub one_host : is_host s.role ≡ true → host_of (segments order host libs) ≡ Some s
  pub requested : IsOfSlot order host libs s
      ⊎ ((j : ℕ) × (g : UnitReference) × IsOfRound order host libs j g s)

-- Each of these segments is one of a link.
abbrev pub AreOfLink : List ℕ → List (List ℕ) → List Segment → Type 0
AreOfLink host libs segs = All (IsOfLink (order_of host) host libs) segs
