-- Units that only a unit names, said plainly: which names are requested and in which order, which
-- slot each takes, and where its segment comes from.
use Rattle.std.specs.Prelude.{◌≡◌, ◌⊎◌, ℕ, ◌+◌, ◌<◌, List, [], ◌∷◌, ◌++◌, length, map, slice_get, true, Ok, Some}
use Rattle.ps_words.specs.declared.order.Order.{Order}
use Rattle.ps_codefile.specs.Dictionary.{entry_at, code_of, information_of}
use Rattle.ps_linkinfo.specs.RecordCounts.{is_unit_reference}
use Rattle.ps_reading.specs.Added.{empty_slots, requested_units, added_segments, segments}
use Rattle.ps_reading.specs.Standing.Phrases.{SomeBelow, SomeItem}
use Rattle.ps_reading.specs.Standing.Slots.{IsUnitSlot}
use Rattle.ps_resolve.specs.Standing.Sources.{IsNamed, HasEntry}
use Rattle.ps_resolve.specs.Standing.Segments.{IsSegment}
use Rattle.ps_codefile.specs.declared.entry.Role.TheVariants.{Wanted}
use Rattle.ps_linkinfo.specs.Records.{reading}
use Rattle.ps_linkinfo.specs.declared.record.LinkRecord.{LinkRecord as Record}
use Rattle.ps_resolve.specs.First.{Before}
use Rattle.ps_codefile.specs.Roles.{is_unit}
use Rattle.ps_reading.specs.Sources.{Segment, information_block, library_file, order_of, own_segments, tables_of}
use Rattle.ps_reading.specs.declared.reading.added.UnitReference.{UnitReference}
use Rattle.ps_codefile.specs.declared.dictionary_layout.TheConstants.{SLOTS}

-- record `rec` of the i-th segment is a UNITREF of this name
abbrev pub RequestsAt : List Segment → ℕ → ℕ → List ℕ → Type 0
RequestsAt segs i rec name =
    (s : Segment) × (slice_get segs i ≡ Some s) × (r : Record)
    × (slice_get s.records rec ≡ Some r) × (is_unit_reference r.body ≡ true)
    × (r.name ≡ name)

-- a slot of role Unit or Wanted of the host has the name
abbrev pub HasSlot : Order → List ℕ → List ℕ → Type 0
HasSlot order host name = SomeBelow SLOTS (λ slot. IsUnitSlot order host slot
    × ((entry_at order host slot).name ≡ name))

-- the reference is of the i-th segment, and its record is the first of all that requests the name
abbrev pub IsGiver : List Segment → ℕ → UnitReference → Type 0
IsGiver segs i g =
    ((s : Segment) × (slice_get segs i ≡ Some s) × (g.at.segment.file ≡ s.file)
    × (g.at.segment.slot ≡ s.slot))
    × RequestsAt segs i g.at.rec g.name
    × ((j rec : ℕ) → Before (j ∷ rec ∷ []) (i ∷ g.at.rec ∷ [])
    → RequestsAt segs j rec g.name → ⊥)

-- two references are givers of their names, g before h
abbrev pub AreGiven : List Segment → UnitReference → UnitReference → Type 0
AreGiven segs g h = (i : ℕ) × (j : ℕ) × IsGiver segs i g × IsGiver segs j h
    × Before (i ∷ g.at.rec ∷ []) (j ∷ h.at.rec ∷ [])

-- the segment is that of the first library that has a filled entry of its name: the code, its
-- tables, and the records after it, of such an entry
abbrev pub IsOfFirstLibrary : Order → List (List ℕ) → Segment → Type 0
IsOfFirstLibrary order libs s =
    SomeItem libs (λ k lib.
    ((lesser : ℕ) (other : List ℕ) → lesser < k → slice_get libs lesser ≡ Some other
    → HasEntry order s.name other → ⊥)
    × (s.file ≡ library_file k) × (s.index < SLOTS) × IsNamed order s.name lib s.index
    × (code_of lib (entry_at order lib s.index) ≡ Ok s.code)
    × (s.tables ≡ tables_of order s.code true)
    × (s.block ≡ information_block (entry_at order lib s.index) true)
    × (s.records ≡ (reading order (information_of lib (entry_at order lib s.index))).0))

-- The names of `queue` are those that are requested, each with its giver, and `segs` are the
-- segments that are added for them. The givers are records of the host's own segments, by slot, and
-- then of the added ones, in their order.
pub record AddedUnits (order : Order) (host : List ℕ) (libs : List (List ℕ))
    (queue : List UnitReference) (segs : List Segment) : Type 0 where
  -- each name of the queue is requested by one of the host's own segments or by one that was added
  -- for a name before it, and no slot of the host has it
  pub requested : (k : ℕ) (g : UnitReference) → slice_get queue k ≡ Some g
      → ((i : ℕ) × (i < length (own_segments order host libs) + k)
      × IsGiver (own_segments order host libs ++ segs) i g) × (HasSlot order host g.name → ⊥)
  -- each name that is requested is in the queue, unless a slot of the host has it
  pub complete : (i rec : ℕ) (name : List ℕ)
      → RequestsAt (own_segments order host libs ++ segs) i rec name
      → HasSlot order host name ⊎ SomeItem queue (λ k g. g.name ≡ name)
  -- none is there twice
  pub once : (j k : ℕ) (g h : UnitReference) → slice_get queue j ≡ Some g
      → slice_get queue k ≡ Some h → g.name ≡ h.name → j ≡ k
  -- they are in the order of their givers
  pub ordered : (j k : ℕ) (g h : UnitReference) → j < k → slice_get queue j ≡ Some g
      → slice_get queue k ≡ Some h → AreGiven (own_segments order host libs ++ segs) g h
  -- the k-th name has the k-th segment, which takes the k-th empty slot
  pub names : map (λ s. s.name) segs ≡ map (λ g. g.name) queue
  pub slots : (k : ℕ) (s : Segment) → slice_get segs k ≡ Some s
      → slice_get (empty_slots order host) k ≡ Some s.slot
  -- it has the role of a wanted unit, and is marked as added
  pub roles : (k : ℕ) (s : Segment) → slice_get segs k ≡ Some s
      → (s.role ≡ Wanted) × (s.added ≡ true)
  -- each is the segment of a unit, from the first library that has it
  pub found : (k : ℕ) (s : Segment) → slice_get segs k ≡ Some s
      → IsOfFirstLibrary order libs s

-- the queue and the segments that the rounds come to
abbrev pub AreAddedUnits : List ℕ → List (List ℕ) → Type 0
AreAddedUnits host libs =
    let order = order_of host in
    let segs = added_segments order host libs in
    AddedUnits order host libs (requested_units order host libs segs) segs

-- whatever queue and segments all of that is said of are those that the rounds come to
abbrev pub AreOnlyUnits : List ℕ → List (List ℕ) → Type 0
AreOnlyUnits host libs =
    let order = order_of host in
    let segs = added_segments order host libs in
    (queue : List UnitReference) (others : List Segment) → AddedUnits order host libs queue others
    → (queue ≡ requested_units order host libs segs) × (others ≡ segs)

-- each unit that a record of a segment of the link requests is a segment of the link
abbrev pub HasAllRequested : List ℕ → List (List ℕ) → Type 0
HasAllRequested host libs =
    let order = order_of host in
    (s : Segment) → IsSegment order host libs s → (rec : ℕ) (r : Record)
    → slice_get s.records rec ≡ Some r → is_unit_reference r.body ≡ true
    → SomeItem (segments order host libs)
    (λ k q. (is_unit q.role ≡ true) × (q.name ≡ r.name))
