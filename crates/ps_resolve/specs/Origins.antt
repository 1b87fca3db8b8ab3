-- Where the segments of a link come from, said plainly: which slots have one, which file and which
-- entry of its dictionary each comes from, and what its code and its records are there.
-- Source: the segment dictionary and its kinds are those of the UCSD Pascal II.0 manual, the
-- records those of the published II.0 Linker source; from which file a slot's segment comes is this
-- project's profile.
use Rattle.std.specs.Prelude.{◌≡◌, ◌≢◌, ◌⊎◌, ℕ, ◌+◌, ◌*◌, ◌<◌, ◌≤◌, List, [], ◌∷◌, length, slice_get, slice_range, true, false, Ok, Some, All}
use Rattle.ps_words.specs.declared.order.Order.{Order}
use Rattle.ps_codefile.specs.Dictionary.{block_len, entry_at, is_nameless, code_of, information_of}
use Rattle.ps_linkinfo.specs.RecordCounts.{is_unit_reference}
use Rattle.ps_reading.specs.Added.{added_segments}
use Rattle.ps_reading.specs.Standing.Phrases.{SomeItem}
use Rattle.ps_reading.specs.Standing.Slots.{HasRole}
use Rattle.ps_resolve.specs.Standing.Sources.{IsNamed, HasEntry}
use Rattle.ps_codefile.specs.declared.entry.Entry.{Entry}
use Rattle.ps_codefile.specs.declared.entry.Role.TheVariants.{Empty, Wanted}
use Rattle.ps_linkinfo.specs.Records.{Spells}
use Rattle.ps_codefile.specs.Roles.{needs_linking}
use Rattle.ps_reading.specs.Sources.{Segment, information_block, order_of, tables_of}
use Rattle.ps_resolve.specs.RequestedUnits.{HasSlot}
use Rattle.ps_codefile.specs.declared.dictionary_layout.TheConstants.{FIRST_ADDED, SLOTS}

-- 1. which slots have a segment
-- a segment of the list has this slot
abbrev pub IsTaken : List Segment → ℕ → Type 0
IsTaken segs slot = SomeItem segs (λ k s. s.slot ≡ slot)

-- just one segment of the list has this slot
abbrev pub HasOne : List Segment → ℕ → Type 0
HasOne segs slot =
    SomeItem segs (λ k s. (s.slot ≡ slot)
    × ((other : ℕ) (q : Segment) → slice_get segs other ≡ Some q → q.slot ≡ slot
    → other ≡ k))

-- a segment that the host's dictionary has a slot for: the slot has its role, which is not Empty,
-- and its name
pub record IsOwn (order : Order) (host : List ℕ) (s : Segment) : Type 0 where
  pub role : HasRole order host s.slot s.role
  pub filled : s.role ≢ Empty
  pub name : s.name ≡ (entry_at order host s.slot).name

-- a record of the segment is a UNITREF of this name
abbrev pub RequestsName : Segment → List ℕ → Type 0
RequestsName s name = SomeItem s.records (λ rec r. (is_unit_reference r.body ≡ true)
    × (r.name ≡ name))

-- a segment that was added for a UNITREF; `segs` are all segments of the link
pub record IsAddedUnit (order : Order) (host : List ℕ) (segs : List Segment)
    (s : Segment) : Type 0 where
  -- its slot is empty in the host's dictionary, is 7 or above, and is the first such that is left
  pub empty : HasRole order host s.slot Empty
  pub low : FIRST_ADDED ≤ s.slot
  pub next : (slot : ℕ) → FIRST_ADDED ≤ slot → slot < s.slot
      → HasRole order host slot Empty → IsTaken segs slot
  -- it has the role of a wanted unit
  pub role : s.role ≡ Wanted
  -- its name is requested by one of the host's own segments, or by one that was added in a smaller
  -- slot
  pub requested : SomeItem segs (λ k q. ((q.added ≡ false) ⊎ (q.slot < s.slot))
      × RequestsName q s.name)
  -- the name is not eight blanks or eight zero bytes, and no slot of role Unit or Wanted of the
  -- host has it
  pub named : is_nameless s.name ≡ false
  pub free : HasSlot order host s.name → ⊥

-- 2. which file and which entry
-- file 0 of a link is the host, and file k the k-th library
abbrev pub IsFile : List ℕ → List (List ℕ) → ℕ → List ℕ → Type 0
IsFile host libs k file = slice_get (host ∷ libs) k ≡ Some file

-- the segment is the host's own entry of its slot
abbrev pub IsInPlace : Segment → Type 0
IsInPlace s = (s.file ≡ 0) × (s.index ≡ s.slot)

-- entry i of file k is the unit of this name in the libraries
pub record IsUnitOf (order : Order) (host : List ℕ) (libs : List (List ℕ)) (name : List ℕ)
    (k i : ℕ) : Type 0 where
  -- the file is a library, and no library before it has a filled entry of the name
  pub library : List ℕ
  pub file : IsFile host libs k library
  pub beside : 1 ≤ k
  pub first : (lesser : ℕ) (other : List ℕ) → 1 ≤ lesser → lesser < k
      → IsFile host libs lesser other → HasEntry order name other → ⊥
  -- the entry is a filled one of the name there, and the only one
  pub within : i < SLOTS
  pub entry : IsNamed order name library i
  pub only : (other : ℕ) → other < SLOTS → IsNamed order name library other → other ≡ i
  -- its kind is UNITSEG
  pub kind : (entry_at order library i).kind ≡ 3

-- 3. what is read there
-- the code is the file's bytes from the entry's block on, as many as the entry says, and the file
-- has them all
abbrev pub IsSliceOf : List ℕ → Entry → List ℕ → Type 0
IsSliceOf file e code =
    (block_len * e.address + e.length ≤ length file)
    × (code ≡ slice_range file (block_len * e.address) (block_len * e.address + e.length))

-- the segment is read from its file, at the entry of its index
pub record IsReadFrom (order : Order) (host : List ℕ) (libs : List (List ℕ))
    (s : Segment) : Type 0 where
  pub source : List ℕ
  pub file : IsFile host libs s.file source
  pub within : s.index < SLOTS
  -- its code is the entry's, with which nothing is wrong, and so a slice of the file
  pub code : code_of source (entry_at order source s.index) ≡ Ok s.code
  pub slice : IsSliceOf source (entry_at order source s.index) s.code
  -- where its references are resolved, it has the tables of its code, and its records are those
  -- that the bytes from the block after its code on spell; otherwise it has none
  pub tables : s.tables ≡ tables_of order s.code (needs_linking s.role)
  pub block : s.block ≡ information_block (entry_at order source s.index) (needs_linking s.role)
  pub records : needs_linking s.role ≡ true
      → Spells order (information_of source (entry_at order source s.index)) s.records
  pub unread : needs_linking s.role ≡ false → s.records ≡ []

-- 4. of all segments of a link
-- each of the host's sixteen slots that is not empty has one
abbrev pub HaveOneEach : List ℕ → List Segment → Type 0
HaveOneEach host segs = (slot : ℕ) → slot < SLOTS
    → (HasRole (order_of host) host slot Empty → ⊥) → HasOne segs slot

-- the segments are by slot, ascending, so no two have one slot; each slot is below SLOTS
abbrev pub AreBySlot : List Segment → Type 0
AreBySlot segs =
    ((i j : ℕ) (s q : Segment) → i < j → slice_get segs i ≡ Some s
    → slice_get segs j ≡ Some q → s.slot < q.slot) × All (λ s. s.slot < SLOTS) segs

-- one that was not added has its slot in the host's dictionary, so an empty slot has no segment but
-- one that was added
abbrev pub AreOwn : List ℕ → List Segment → Type 0
AreOwn host segs = All (λ s. s.added ≡ false → IsOwn (order_of host) host s) segs

-- one that was added has an empty slot, and a name that is requested
abbrev pub AreAdded : List ℕ → List Segment → Type 0
AreAdded host segs = All (λ s. s.added ≡ true → IsAddedUnit (order_of host) host segs s) segs

-- each added segment is the one of which `AddedUnits` says which name it has, and in which order
abbrev pub AreOfRounds : List ℕ → List (List ℕ) → List Segment → Type 0
AreOfRounds host libs segs =
    All (λ s. s.added ≡ true → SomeItem (added_segments (order_of host) host libs)
    (λ k q. q ≡ s)) segs
    × All (λ s. SomeItem segs (λ k q. q ≡ s)) (added_segments (order_of host) host libs)

-- one of role Host, Unit or Plain is the host's own entry
abbrev pub AreInPlace : List Segment → Type 0
AreInPlace segs = All (λ s. s.role ≢ Wanted → IsInPlace s) segs

-- one of role Wanted, added ones among them, is the unit of its name in the libraries
abbrev pub AreOfLibraries : List ℕ → List (List ℕ) → List Segment → Type 0
AreOfLibraries host libs segs = All (λ s. s.role ≡ Wanted
    → IsUnitOf (order_of host) host libs s.name s.file s.index) segs

-- each has its code and its records from its file
abbrev pub AreRead : List ℕ → List (List ℕ) → List Segment → Type 0
AreRead host libs segs = All (λ s. IsReadFrom (order_of host) host libs s) segs
