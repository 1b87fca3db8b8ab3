-- What is known of the segments that were read, and which of them is in which slot.
use Rattle.std.specs.Prelude.{◌≡◌, ◌≤◌, ◌*◌, ◌==◌, nat_lt, if◌then◌else◌, ℕ, All, List, [], ◌∷◌, length, drop, Bool, true, false, Option, Some, None, ◌&&◌, ◌+◌, map, Result, ⊤, ◌<◌}
use Rattle.std.specs.List.{find, filter_map, list_any, Contains}
use Rattle.std.specs.Option.{option_or}
use Rattle.ps_words.specs.declared.order.Order.{Order}
use Rattle.ps_codefile.specs.Dictionary.{slots, block_len, OpenedFile, entry_at, role_of}
use Rattle.ps_linkinfo.specs.Records.{reading}
use Rattle.ps_linkinfo.specs.declared.record.LinkRecord.{LinkRecord}
use Rattle.ps_codefile.specs.Places.{HasTables}
use Rattle.ps_codefile.specs.Procedures.{tables_fault}
use Rattle.ps_codefile.specs.Roles.{needs_linking, is_host, is_empty}
use Rattle.ps_reading.specs.Sources.{Segment, file_at, host_of}
use Rattle.ps_reading.specs.Faults.{is_role}
use Rattle.ps_words.specs.declared.fault.Reason.{Reason}
use Rattle.ps_codefile.specs.declared.entry.Role.{Role}
use Rattle.ps_codefile.specs.declared.dictionary_layout.TheConstants.{SLOTS}

-- what is kept of a segment: its references are resolved as its role says; the procedure tables of
-- one that is linked lie in its code, and one that is not has no records
pub record IsKept (linked : Bool) (role : Role) (order : Order) (code : List ℕ)
    (records : List LinkRecord) : Type 0 where
  pub by_role : linked ≡ needs_linking role
  pub tables : linked ≡ true → HasTables order code
  pub none : linked ≡ false → records ≡ []

-- the records of each segment that is from this file, which has this number, are all that are in
-- its block there and after it, where its references are resolved
abbrev pub ArePlacedIn : Order → List ℕ → ℕ → List Segment → Type 0
ArePlacedIn order file k segs = All (λ s. s.file ≡ k → needs_linking s.role ≡ true
    → reading order (drop (block_len * s.block) file) ≡ (s.records, None)) segs

-- where the link information of two linked segments begins in one block of one file, they have the
-- same records
abbrev pub IsLike : Segment → Segment → Type 0
IsLike s q = needs_linking s.role ≡ true → needs_linking q.role ≡ true → s.file ≡ q.file
    → s.block ≡ q.block → s.records ≡ q.records

-- any two of the segments are alike
abbrev pub AreAlike : List Segment → Type 0
AreAlike segs = All (λ s. All (IsLike s) segs) segs

-- one of the segments has these records, which are resolved, and its link information begins in
-- this block of this file
abbrev pub HasRecordsAt : List Segment → ℕ → ℕ → List LinkRecord → Type 0
HasRecordsAt segs file block rs =
    (s : Segment) × Contains segs s × (needs_linking s.role ≡ true) × (s.file ≡ file)
    × (s.block ≡ block) × (s.records ≡ rs)

-- one of these segments is linked, and its link information begins in this block of this file
abbrev pub has_records_at : ℕ → ℕ → List Segment → Bool
has_records_at file block =
    list_any (λ s. needs_linking s.role && s.file == file && s.block == block)

-- What each slot of a host is for, or why its kind is refused.
abbrev pub AreSlots : OpenedFile → List (Result Role Reason) → Type 0
AreSlots dict roles = roles ≡ map (λ slot. role_of (entry_at dict.order dict.file slot)) slots

-- the numbers rise strictly, from `from` on
abbrev pub AscendFrom : ℕ → List ℕ → Type 0
AscendFrom from [] = ⊤
AscendFrom from (s ∷ ss) = (from ≤ s) × AscendFrom (s + 1) ss

-- no segment is a host's but the first such
abbrev pub HasOneHost : List Segment → Type 0
HasOneHost segs = All (λ s. is_host s.role ≡ true → host_of segs ≡ Some s) segs

-- the segment is in this slot
abbrev pub is_in_slot : ℕ → Segment → Bool
is_in_slot slot s = s.slot == slot

-- the segment among others that are by slot ascending, in its place
abbrev pub put_by_slot : Segment → List Segment → List Segment
put_by_slot s [] = s ∷ []
put_by_slot s (x ∷ xs) = if nat_lt s.slot x.slot then s ∷ x ∷ xs else x ∷ put_by_slot s xs

-- the own segment that is in a slot, or in an empty slot the added one
abbrev pub segment_in_slot : Order → List ℕ → List Segment → List Segment → ℕ
    → Option Segment
segment_in_slot order host own added slot =
    option_or (find (is_in_slot slot) own)
    (if is_role is_empty order host slot then find (is_in_slot slot) added else None)

-- the segments of all slots: the host's own, and those that were added
unfoldable pub segments_in_slots : Order → List ℕ → List Segment → List Segment
    → List Segment
segments_in_slots order host own added = filter_map (segment_in_slot order host own added) slots

-- the code of a linked segment has its number and a procedure word at least, and its procedure
-- tables have no fault and are kept
pub record IsSound (order : Order) (s : Segment) : Type 0 where
  pub large : needs_linking s.role ≡ true → 4 ≤ length s.code
  pub tables : needs_linking s.role ≡ true → tables_fault order s.code (is_host s.role) ≡ None
  pub kept : needs_linking s.role ≡ true
      → s.tables ≡ Some (record { order = order; code = s.code })
  pub slot : s.slot < SLOTS

-- a segment as the files have it: its records, if its references are resolved, are all that are in
-- its block of its file and after it, and it is sound
pub record IsRead (order : Order) (host : List ℕ) (libs : List (List ℕ))
    (s : Segment) : Type 0 where
  pub placed : needs_linking s.role ≡ true
      → reading order (drop (block_len * s.block) (file_at host libs s.file))
      ≡ (s.records, None)
  pub sound : IsSound order s
