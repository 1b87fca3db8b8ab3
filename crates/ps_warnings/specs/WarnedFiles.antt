-- What a check warns of in whole files, in the words of the pages: where the things are that `Warned`
-- describes, which findings say so, and in what order.
use Rattle.std.specs.Prelude.{◌≡◌, ◌⊎◌, ℕ, ◌+◌, ◌*◌, ◌<◌, ◌≤◌, ⊤, true, List, [], ◌∷◌, length, slice_get, unwrap_or, Option, Some, None, Ok}
use Rattle.ps_words.specs.Words.{blocks}
use Rattle.ps_codefile.specs.Dictionary.{OpenedFile, code_of, entry_at, information_of, is_filled, kind_needs_linking, opened_alone, opened_beside, role_of}
use Rattle.ps_codefile.specs.declared.dictionary_layout.TheConstants.{SLOTS}
use Rattle.ps_codefile.specs.declared.entry.Entry.{Entry}
use Rattle.ps_codefile.specs.declared.entry.Role.TheVariants as role
use Rattle.ps_filetype.specs.CodeTypes.{is_code_type}
use Rattle.ps_linkinfo.specs.Records.{reading}
use Rattle.ps_linkinfo.specs.declared.record.LinkRecord.{LinkRecord as Record}
use Rattle.ps_resolve.specs.Standing.Phrases.{SomeItem}
use Rattle.ps_check_segments.specs.Paths.{host_order, path_of}
use Rattle.ps_check_segments.specs.Seen.{Seen, host_records}
use Rattle.ps_check_segments.specs.SegmentParts.{is_added, is_unit}
use Rattle.ps_warnings.specs.SegmentSizes.{data_size, information_end}
use Rattle.ps_warnings.specs.Found.{Stated}
use Rattle.ps_warnings.specs.Warned.{IsEndMark, IsHigh, IsOwnDefinition, IsPast, IsPastMark, IsRespelled, IsVariable, names_segment}
use Rattle.ps_warnings.specs.declared.finding.EntryFinding.TheVariants as entry
use Rattle.ps_warnings.specs.declared.finding.Finding.{Finding}
use Rattle.ps_warnings.specs.declared.finding.Finding.TheVariants as which
use Rattle.ps_warnings.specs.declared.finding.LinkFinding.TheVariants as link
use Rattle.ps_warnings.specs.declared.finding.RecordFinding.TheVariants as finding

-- 1. where it is
-- the file of this number, 0 for the host, is looked at: it is a code file as it ought to be, and can
-- be read in the host's order
pub record IsLookedAt (host : List ℕ) (libs : List (List ℕ)) (number : ℕ) (f : OpenedFile)
    : Type 0 where
  pub bytes : List ℕ
  pub given : slice_get (host ∷ libs) number ≡ Some bytes
  pub code : is_code_type bytes ≡ true
  pub opens : opened_beside (host_order host) bytes ≡ Ok f

-- a segment in a slot of a file, with its code and its records up to the first that cannot be read
pub record FileSegment : Type 0 where
  pub number : ℕ
  pub file : OpenedFile
  pub slot : ℕ
  pub code : List ℕ
  pub records : List Record

abbrev pub entry_of : FileSegment → Entry
entry_of g = entry_at g.file.order g.file.file g.slot

-- it is the segment of a host program or of a unit in a file that is looked at, and has a code
pub record IsLinkedFrom (host : List ℕ) (libs : List (List ℕ)) (g : FileSegment) : Type 0 where
  pub looked : IsLookedAt host libs g.number g.file
  pub below : g.slot < SLOTS
  pub filled : is_filled (entry_of g) ≡ true
  pub linked : kind_needs_linking (entry_of g).kind ≡ true
  pub code : code_of g.file.file (entry_of g) ≡ Ok g.code
  pub records : g.records
      ≡ (reading g.file.order (information_of g.file.file (entry_of g))).0

-- a finding is at this place: the path of a file, the name of a segment, the index of a record
pub record IsAt (s : Stated) (file : List ℕ) (name : Option (List ℕ)) (index : Option ℕ)
    : Type 0 where
  pub path : s.path ≡ file
  pub segment : s.segment ≡ name
  pub rec : s.rec ≡ index

-- the link takes the segment from its file, and its host program has these records
abbrev pub IsMet : List Seen → FileSegment → List Record → Type 0
IsMet list g hs = (host_records list ≡ Some hs)
    × SomeItem list (λ k s. (s.file ≡ Some g.number) × (s.name ≡ (entry_of g).name))

-- the byte of the file is one of the code of the entry in this slot, of kind 0, 1 or 3, or of its link
-- information up to the first record that cannot be read
abbrev pub HasByte : OpenedFile → ℕ → ℕ → Type 0
HasByte f slot p = let e = entry_at f.order f.file slot in
    (is_filled e ≡ true) × ((code : List ℕ) × (code_of f.file e ≡ Ok code))
    × (((e.kind ≡ 0) ⊎ (kind_needs_linking e.kind ≡ true)) × (512 * e.address ≤ p)
    × (p < 512 * e.address + e.length)
    ⊎ (kind_needs_linking e.kind ≡ true) × (512 * (e.address + blocks e.length) ≤ p)
    × (p < information_end f.order f.file e))

-- two entries have a byte of the file in common
abbrev pub Share : OpenedFile → ℕ → ℕ → Type 0
Share f slot other = (p : ℕ) × HasByte f slot p × HasByte f other p

-- each kind has its turn among the findings of one place
abbrev pub turn : Finding → ℕ
turn (which.Record (finding.PastPublic place name displacement value next)) = 1
turn (which.Record (finding.LowMark next size)) = 2
turn (which.Record (finding.HighDefinition name value next)) = 3
turn (which.Record (finding.OwnDefinition name)) = 4
turn (which.Record (finding.UnitDefinition name)) = 5
turn (which.Link (link.OtherSpelling name)) = 1
turn other = 0

module _ (paths : List (List ℕ)) (host : List ℕ) (libs : List (List ℕ)) (list : List Seen) where
  -- this holds of a record of a segment of a host program or a unit, and the finding is there
  abbrev pub InRecord : Stated → (FileSegment → ℕ → Type 0) → Type 0
  InRecord s Holds = (g : FileSegment) × (i : ℕ) × IsLinkedFrom host libs g
      × IsAt s (path_of paths g.number) (Some (entry_of g).name) (Some i) × Holds g i

  -- the same of a segment as a whole
  abbrev pub InSegment : Stated → (FileSegment → Type 0) → Type 0
  InSegment s Holds = (g : FileSegment) × IsLinkedFrom host libs g
      × IsAt s (path_of paths g.number) (Some (entry_of g).name) None × Holds g

  -- this holds of an entry of a file that is looked at, and the finding is in this segment of the file
  abbrev pub InSlot : Stated → (OpenedFile → ℕ → Option (List ℕ)) → (ℕ → OpenedFile → ℕ → Type 0)
      → Type 0
  InSlot s segment Holds = (number : ℕ) × (f : OpenedFile) × (slot : ℕ)
      × IsLookedAt host libs number f × (slot < SLOTS)
      × IsAt s (path_of paths number) (segment f slot) None × Holds number f slot

  -- this holds of a segment of the link, whose host can be read, and the finding is in the file that it
  -- comes from, or in the host where it comes from none
  abbrev pub InLink : Stated → (OpenedFile → ℕ → Seen → Type 0) → Type 0
  InLink s Holds = (h : OpenedFile) × (opened_alone host ≡ Ok h)
      × SomeItem list (λ k t. IsAt s (path_of paths (unwrap_or t.file 0)) (Some t.name) None
      × Holds h k t)

  -- 2. what is so: what this finding says holds at the place of the finding
  abbrev pub IsSo : Stated → Finding → Type 0
  IsSo s (which.Record (finding.HighDefinition name value next)) = InRecord s (λ g i.
      ((entry_of g).kind ≡ 1) × IsEndMark g.records next × IsHigh g.records i name value next)
  IsSo s (which.Record (finding.LowMark next size)) = InSegment s (λ g.
      ((entry_of g).kind ≡ 1) × (data_size g.file.order g.code ≡ Some size)
      × IsEndMark g.records next × (2 * next < size))
  IsSo s (which.Record (finding.PastPrivate place displacement words)) = InRecord s (λ g i.
      IsPast g.code g.records i place displacement words)
  IsSo s (which.Record (finding.PastPublic place name displacement value next)) = InRecord s
      (λ g i. (hs : List Record) × IsMet list g hs
      × IsPastMark g.code hs g.records i place name displacement value next)
  IsSo s (which.Record (finding.OwnDefinition name)) = InRecord s (λ g i.
      ((entry_of g).kind ≡ 3) × ((hs : List Record) × IsMet list g hs × IsOwnDefinition hs g.records i name))
  IsSo s (which.Record (finding.UnitDefinition name)) = InRecord s (λ g i.
      ((entry_of g).kind ≡ 3) × IsVariable g.records i name
      × ((hs : List Record) → IsMet list g hs → IsOwnDefinition hs g.records i name → ⊥))
  IsSo s (which.Entry (entry.Overlap other)) = InSlot s
      (λ f slot. Some (entry_at f.order f.file slot).name)
      (λ number f slot. (other < slot) × Share f slot other)
  IsSo s (which.Entry (entry.EmptySlot empty name kind)) = InSlot s (λ f slot. None)
      (λ number f slot. let e = entry_at f.order f.file slot in
      (number ≡ 0) × (slot ≡ empty) × (role_of e ≡ Ok role.Empty) × (names_segment e ≡ true)
      × (e.name ≡ name) × (e.kind ≡ kind) × (SomeItem list (λ k t. t.slot ≡ Some slot) → ⊥))
  IsSo s (which.Link (link.TakenSlot slot name)) = InLink s (λ h k t.
      (t.slot ≡ Some slot) × (slot < SLOTS) × (is_added t.part ≡ true)
      × (names_segment (entry_at h.order h.file slot) ≡ true)
      × ((entry_at h.order h.file slot).name ≡ name))
  IsSo s (which.Link (link.OtherSpelling name)) = InLink s (λ h k t. (is_unit t.part ≡ true)
      × SomeItem list (λ j o. (j < k) × (is_unit o.part ≡ true) × (o.name ≡ name)
      × IsRespelled o.name t.name))
  IsSo s other = ⊥

  -- 3. in what order it is said: the place of a finding. Each file has 32 places, the host first: one
  -- for each slot, and then one for each of which the bytes overlap. After the files each segment of
  -- the link has one.
  abbrev pub IsPlaced : ℕ → Stated → Finding → Type 0
  IsPlaced place s (which.Record (finding.LowMark next size)) = InSegment s
      (λ g. place ≡ 32 * g.number + g.slot)
  IsPlaced place s (which.Record f) = InRecord s (λ g i. place ≡ 32 * g.number + g.slot)
  IsPlaced place s (which.Entry (entry.Overlap other)) = InSlot s
      (λ f slot. Some (entry_at f.order f.file slot).name)
      (λ number f slot. place ≡ 32 * number + 16 + slot)
  IsPlaced place s (which.Entry f) = InSlot s (λ f slot. None)
      (λ number f slot. place ≡ 32 * number + slot)
  IsPlaced place s (which.Link f) = InLink s (λ h k t. place ≡ 32 * length (host ∷ libs) + k)
  IsPlaced place s other = ⊥

  -- a finding is this one by its place, and by its kind among those of one place
  abbrev pub IsNumber : ℕ → Stated → Type 0
  IsNumber n s = (place : ℕ) × IsPlaced place s s.finding × (n ≡ 10 * place + turn s.finding)

  -- the numbers of these findings ascend from this one on
  abbrev pub AscendFrom : ℕ → List Stated → Type 0
  AscendFrom n [] = ⊤
  AscendFrom n (s ∷ more) = (m : ℕ) × (n ≤ m) × IsNumber m s × AscendFrom (m + 1) more

-- 4. what says that this is so
-- Of an end mark, of an empty slot and of a slot that is taken, the same finding. Of the others, one of
-- the same kind: of an operand and of a definition about the first record of the segment, of entries
-- that share a byte about the first earlier one.
abbrev pub Says : Finding → Finding → Type 0
Says (which.Record (finding.HighDefinition name value next)) f = (n : List ℕ) × (v : ℕ)
    × (f ≡ which.Record (finding.HighDefinition n v next))
Says (which.Record (finding.LowMark next size)) f = f ≡ which.Record (finding.LowMark next size)
Says (which.Record (finding.PastPrivate place displacement words)) f = (p : ℕ) × (d : ℕ)
    × (w : ℕ) × (f ≡ which.Record (finding.PastPrivate p d w))
Says (which.Record (finding.PastPublic place name displacement value next)) f = (p : ℕ)
    × (n : List ℕ) × (d : ℕ) × (v : ℕ) × (f ≡ which.Record (finding.PastPublic p n d v next))
Says (which.Record (finding.OwnDefinition name)) f = (n : List ℕ)
    × (f ≡ which.Record (finding.OwnDefinition n))
Says (which.Record (finding.UnitDefinition name)) f = (n : List ℕ)
    × (f ≡ which.Record (finding.UnitDefinition n))
Says (which.Entry (entry.Overlap other)) f = (o : ℕ) × (f ≡ which.Entry (entry.Overlap o))
    × (o ≤ other)
Says (which.Entry (entry.EmptySlot slot name kind)) f = f
    ≡ which.Entry (entry.EmptySlot slot name kind)
Says (which.Link (link.TakenSlot slot name)) f = f ≡ which.Link (link.TakenSlot slot name)
Says (which.Link (link.OtherSpelling name)) f = (n : List ℕ)
    × (f ≡ which.Link (link.OtherSpelling n))
Says other f = ⊥

-- a record is this one or one before it; or there is none
abbrev pub IsUpTo : Option ℕ → Option ℕ → Type 0
IsUpTo None None = ⊤
IsUpTo (Some j) (Some i) = j ≤ i
IsUpTo None (Some i) = ⊥
IsUpTo (Some j) None = ⊥

-- a finding says of a thing that is so, in its segment of its file, at its record or at one before it
pub record IsSaidBy (thing s : Stated) : Type 0 where
  pub path : s.path ≡ thing.path
  pub segment : s.segment ≡ thing.segment
  pub rec : IsUpTo s.rec thing.rec
  pub says : Says thing.finding s.finding

-- The findings about the link of these files, whose link has these segments: each is so, and whatever is
-- so is said.
pub record AreSaid (paths : List (List ℕ)) (host : List ℕ) (libs : List (List ℕ))
    (list : List Seen) (found : List Stated) : Type 0 where
  pub sound : (k : ℕ) (s : Stated) → slice_get found k ≡ Some s
      → IsSo paths host libs list s s.finding
  pub each : (thing : Stated) → IsSo paths host libs list thing thing.finding
      → SomeItem found (λ k s. IsSaidBy thing s)

-- The findings are in order: by file, of each by slot and then where bytes overlap, and then by segment of
-- the link. So none is said twice of one of these.
abbrev pub AreInOrder : List (List ℕ) → List ℕ → List (List ℕ) → List Seen → List Stated → Type 0
AreInOrder paths host libs list found = AscendFrom paths host libs list 0 found
