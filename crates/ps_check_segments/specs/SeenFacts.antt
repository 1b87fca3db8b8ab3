-- What is seen of the segments of a link, in words that name no step of reading them: which slots
-- have an item, what each item is of, and why one comes from nowhere.
use Rattle.std.specs.Prelude.{◌≡◌, ◌≢◌, ◌⊎◌, ℕ, ◌<◌, List, [], length, slice_get, true, false, Some, None, Ok, Err}
use Rattle.std.specs.Result.{is_ok}
use Rattle.ps_words.specs.declared.fault.Fault.{Fault}
use Rattle.ps_codefile.specs.Dictionary.{OpenedFile, code_of, entry_at, information_of, is_nameless, opened_beside}
use Rattle.ps_codefile.specs.declared.dictionary_layout.TheConstants.{SLOTS}
use Rattle.ps_codefile.specs.declared.entry.Role.{Role}
use Rattle.ps_codefile.specs.declared.entry.Role.TheVariants as role
use Rattle.ps_linkinfo.specs.Records.{reading}
use Rattle.ps_reading.specs.Standing.Phrases.{SomeBelow, SomeItem}
use Rattle.ps_reading.specs.Standing.Slots.{HasRole, IsUnitSlot}
use Rattle.ps_reading.specs.declared.locations.RecordAt.{RecordAt}
use Rattle.ps_reading.specs.declared.reading.added.UnitReference.{UnitReference}
use Rattle.ps_reading.specs.declared.reading.request.Request.{Request}
use Rattle.ps_reading.specs.declared.reading.request.Requester.TheVariants as by
use Rattle.ps_reading.specs.declared.slot_reading.Absent.TheVariants as absent
use Rattle.ps_resolve.specs.Added.{empty_slots}
use Rattle.ps_resolve.specs.Readings.{HostFiles}
use Rattle.ps_resolve.specs.SlotReadings.{entry_in, first_in, reading_in, request_in}
use Rattle.ps_resolve.specs.Sources.{Segment, file_at}
use Rattle.ps_resolve.specs.Standing.Sources.{HasEntry}
use Rattle.ps_check_segments.specs.Paths.{host_order}
use Rattle.ps_check_segments.specs.Seen.{Origin, Seen, part_needs_linking}
use Rattle.ps_check_segments.specs.SeenSegments.{requests_in, segments_in}
use Rattle.ps_check_segments.specs.declared.segments.SegmentPart.{SegmentPart}
use Rattle.ps_check_segments.specs.declared.segments.SegmentPart.TheVariants as part

-- 1. which slots have an item
-- a slot of the host has or wants a unit of this name, which is refused
abbrev pub IsRefusedUnit : HostFiles → List ℕ → Type 0
IsRefusedUnit h name = SomeBelow SLOTS (λ slot. IsUnitSlot h.order h.file slot
    × ((entry_at h.order h.file slot).name ≡ name)
    × ((f : Fault) × (reading_in h slot ≡ Some (Err f))))

-- the slot is not empty, and its kind is none that is refused
abbrev pub IsFilled : HostFiles → ℕ → Type 0
IsFilled h slot = (r : Role) × HasRole h.order h.file slot r × (r ≢ role.Empty)

-- the slot is empty, and a unit is requested for it, which is no refused one of the host
abbrev pub IsTaken : HostFiles → ℕ → Type 0
IsTaken h slot = HasRole h.order h.file slot role.Empty
    × ((r : Request) × (request_in h slot ≡ Some r) × (IsRefusedUnit h r.name → ⊥))

-- the slot has a segment, or wants one
abbrev pub HasItem : HostFiles → ℕ → Type 0
HasItem h slot = IsFilled h slot ⊎ IsTaken h slot

-- 2. what an item is of
-- a unit that this record requests, whose segment was read
abbrev pub IsOfRecord : HostFiles → RecordAt → SegmentPart → Type 0
IsOfRecord h at what = SomeItem (segments_in h) (λ k q. (q.slot ≡ at.segment.slot)
    × (what ≡ part.Added q.name at.rec))

-- what the segment of a slot is: by the role of the slot, or in an empty one a unit that the record
-- requests which first named it
abbrev pub IsPart : HostFiles → ℕ → SegmentPart → Type 0
IsPart h slot what = (HasRole h.order h.file slot role.Plain × (what ≡ part.Plain))
    ⊎ ((HasRole h.order h.file slot role.Host × (what ≡ part.Host))
    ⊎ ((HasRole h.order h.file slot role.Unit × (what ≡ part.Unit))
    ⊎ ((HasRole h.order h.file slot role.Wanted × (what ≡ part.Wanted))
    ⊎ (HasRole h.order h.file slot role.Empty
    × ((r : Request) × (at : RecordAt) × (request_in h slot ≡ Some r)
    × (r.requester ≡ by.Record at) × IsOfRecord h at what)))))

-- the item is of a segment that was read without a fault: its slot, its name, what it is, its entry,
-- the length of its code, its file, and its records
pub record IsOfSegment (h : HostFiles) (s : Seen) (q : Segment) : Type 0 where
  pub slot : s.slot ≡ Some q.slot
  pub name : s.name ≡ q.name
  pub part : IsPart h q.slot s.part
  pub origin : s.origin ≡ Ok (record { file = q.file; index = q.index; size = length q.code })
  pub file : s.file ≡ Some q.file
  pub records : s.records ≡ q.records

-- the item has this slot, and the name that is requested for it, or else that of the host's entry
pub record IsInSlot (h : HostFiles) (s : Seen) (slot : ℕ) : Type 0 where
  pub slot_is : s.slot ≡ Some slot
  pub requested : (r : Request) → request_in h slot ≡ Some r → s.name ≡ r.name
  pub own : request_in h slot ≡ None → s.name ≡ (entry_at h.order h.file slot).name
  pub part : IsPart h slot s.part

-- the records of an entry that can be read: those of the blocks behind its code, up to the first
-- that cannot be read; none where the code cannot be read, or the references are not resolved
pub record HasRecordsOf (f : OpenedFile) (index : ℕ) (s : Seen) : Type 0 where
  pub read : part_needs_linking s.part ≡ true
      → is_ok (code_of f.file (entry_at f.order f.file index)) ≡ true
      → s.records ≡ (reading f.order (information_of f.file (entry_at f.order f.file index))).0
  pub unread : is_ok (code_of f.file (entry_at f.order f.file index)) ≡ false → s.records ≡ []
  pub unlinked : part_needs_linking s.part ≡ false → s.records ≡ []

-- the item is of a slot whose segment is refused, and comes from the entry that was looked at: of the
-- host, or of the first library that has the unit
pub record IsOfEntry (host : List ℕ) (libs : List (List ℕ)) (h : HostFiles) (s : Seen)
    (o : Origin) : Type 0 where
  pub slot : ℕ
  pub fault : Fault
  pub opened : OpenedFile
  pub in_slot : IsInSlot h s slot
  pub refused : reading_in h slot ≡ Some (Err fault)
  pub entry : entry_in h slot ≡ Some (o.file, o.index)
  pub index : o.index < SLOTS
  pub opens : opened_beside (host_order host) (file_at host libs o.file) ≡ Ok opened
  pub size : o.size ≡ (entry_at opened.order opened.file o.index).length
  pub file : s.file ≡ Some o.file
  pub records : HasRecordsOf opened o.index s

-- a library that can be opened beside the host has a filled entry of this name
abbrev pub IsInLibrary : HostFiles → List ℕ → Type 0
IsInLibrary h name = SomeItem h.libs (λ k lib. (f : OpenedFile)
    × (opened_beside h.order lib ≡ Ok f) × HasEntry f.order name f.file)

-- the item comes from nowhere, so it has no file and no records
pub record IsNowhere (s : Seen) : Type 0 where
  pub file : s.file ≡ None
  pub records : s.records ≡ []

-- the item is of a slot whose segment is refused, since what is requested has no name, or no
-- library that can be opened has it
pub record IsOfMissing (h : HostFiles) (s : Seen) : Type 0 where
  pub slot : ℕ
  pub fault : Fault
  pub request : Request
  pub in_slot : IsInSlot h s slot
  pub refused : reading_in h slot ≡ Some (Err fault)
  pub requested : request_in h slot ≡ Some request
  pub missing : (is_nameless request.name ≡ true) ⊎ (IsInLibrary h request.name → ⊥)
  pub nowhere : IsNowhere s

-- the item is of a slot for which a unit is requested, and of which nothing was read after the fault
-- of the link
pub record IsLeft (h : HostFiles) (s : Seen) : Type 0 where
  pub slot : ℕ
  pub fault : Fault
  pub request : Request
  pub in_slot : IsInSlot h s slot
  pub unread : reading_in h slot ≡ None
  pub requested : request_in h slot ≡ Some request
  pub after : first_in h ≡ Some fault
  pub nowhere : IsNowhere s

-- the name that is requested next after those that take the empty slots
abbrev pub IsNext : HostFiles → UnitReference → Type 0
IsNext h g = slice_get (requests_in h) (length (empty_slots h.order h.file)) ≡ Some g

-- the item has no slot, and is of the unit that is requested next after those that take the empty
-- slots, which is no refused one of the host
pub record IsUnplaced (h : HostFiles) (s : Seen) : Type 0 where
  pub unit : UnitReference
  pub next : IsNext h unit
  pub other : IsRefusedUnit h unit.name → ⊥
  pub slot : s.slot ≡ None
  pub name : s.name ≡ unit.name
  pub part : IsOfRecord h unit.at s.part
  pub nowhere : IsNowhere s

-- What is seen of the segments of a host that can be opened, with these libraries.
pub record AreSeen (host : List ℕ) (libs : List (List ℕ)) (h : HostFiles)
    (list : List Seen) : Type 0 where
  -- each item but the last has a slot of the host, and slots ascend: so none has two items
  pub by_slot : (i j : ℕ) (s t : Seen) → i < j → slice_get list i ≡ Some s
      → slice_get list j ≡ Some t
      → (k : ℕ) × (s.slot ≡ Some k) × (k < SLOTS)
      × ((m : ℕ) → t.slot ≡ Some m → k < m)
  -- each slot that has or wants a segment has its item
  pub each_slot : (slot : ℕ) → slot < SLOTS → HasItem h slot
      → SomeItem list (λ i s. s.slot ≡ Some slot)
  -- the slot of each item is one that has or wants a segment
  pub of_slot : (i slot : ℕ) (s : Seen) → slice_get list i ≡ Some s → s.slot ≡ Some slot
      → (slot < SLOTS) × HasItem h slot
  -- each segment that was read has its item, but one that was added for a refused unit of the host
  pub read : (k : ℕ) (q : Segment) → slice_get (segments_in h) k ≡ Some q
      → SomeItem list (λ i s. IsOfSegment h s q)
      ⊎ ((q.added ≡ true) × IsRefusedUnit h q.name)
  -- the unit for which no slot is left has its item, if it is no refused unit of the host
  pub next : (g : UnitReference) → IsNext h g
      → SomeItem list (λ i s. IsUnplaced h s) ⊎ IsRefusedUnit h g.name
  -- an item that comes from somewhere is of a segment that was read, or of an entry that is refused
  pub from : (i : ℕ) (s : Seen) (o : Origin) → slice_get list i ≡ Some s → s.origin ≡ Ok o
      → SomeItem (segments_in h) (λ k q. IsOfSegment h s q) ⊎ IsOfEntry host libs h s o
  -- one that no library has is of a unit that no library has
  pub missing : (i : ℕ) (s : Seen) → slice_get list i ≡ Some s
      → s.origin ≡ Err absent.Missing → IsOfMissing h s
  -- one that was not looked for is that of a request
  pub left : (i : ℕ) (s : Seen) → slice_get list i ≡ Some s
      → s.origin ≡ Err absent.NotLookedFor → IsLeft h s
  -- one for which no slot is left is that of the first name too many, and one without a slot is so
  pub unplaced : (i : ℕ) (s : Seen) → slice_get list i ≡ Some s
      → s.origin ≡ Err absent.Unplaced → IsUnplaced h s
  pub without_slot : (i : ℕ) (s : Seen) → slice_get list i ≡ Some s → s.slot ≡ None
      → s.origin ≡ Err absent.Unplaced
  -- one that is refused comes from its entry: none comes from nowhere for a fault
  pub refused : (i : ℕ) (s : Seen) (f : Fault) → slice_get list i ≡ Some s
      → s.origin ≡ Err (absent.Refused f) → ⊥
