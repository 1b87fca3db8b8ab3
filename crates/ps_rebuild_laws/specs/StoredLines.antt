-- What the lines of the references of a link say of its codes.
use Rattle.std.specs.Prelude.{◌≡◌, ℕ, ◌+◌, ◌*◌, ◌<◌, ◌≤◌, List, length, take, drop, All, slice_get, slice_index, Some}
use Rattle.ps_codefile.specs.Dictionary.{block_len}
use Rattle.ps_linkinfo.specs.Kinds.{kind_of}
use Rattle.ps_linkinfo.specs.Records.{refs_of}
use Rattle.ps_linkinfo.specs.declared.kind.Kind.{Kind}
use Rattle.ps_linkinfo.specs.declared.record.LinkRecord.{LinkRecord as Record}
use Rattle.ps_resolve.specs.LinkedBytes.{segments_of}
use Rattle.ps_resolve.specs.Sources.{Segment, order_of}
use Rattle.ps_resolve.specs.Standing.Phrases.{SomeItem}
use Rattle.ps_linkfile.specs.LinkedFile.{block_of, linked_segments}
use Rattle.ps_linkfile.specs.ReferencesText.{StoredIn, all_stored_in, cause_width}
use Rattle.ps_linkfile.specs.declared.cause.Cause.{Cause}
use Rattle.ps_linkfile.specs.declared.cause.Cause.TheVariants.{Reference}

-- what is listed of the segments of a link whose references are resolved, by slot
abbrev pub all_stored : List ℕ → List (List ℕ) → List StoredIn
all_stored host libs =
    all_stored_in (order_of host) (segments_of host libs) (linked_segments host libs)

-- a line of the segment in this slot says that these bytes are at this place of its code
abbrev pub IsLine : List StoredIn → ℕ → ℕ → List ℕ → Type 0
IsLine lists slot at new = SomeItem lists (λ k l. (l.slot ≡ slot)
    × ((c : Cause) × (slice_get l.causes at ≡ Some (Some c))
    × (new ≡ take (cause_width c) (drop at l.linked))))

-- a line of the segment in this slot says that what is at this place is an operand of a record of
-- this kind, name and number
abbrev pub IsRecordOfLine : List StoredIn → ℕ → ℕ → Kind → List ℕ → ℕ → Type 0
IsRecordOfLine lists slot at kind name rec = SomeItem lists (λ k l. (l.slot ≡ slot)
    × (slice_get l.causes at ≡ Some (Some (Reference kind name rec))))

-- the code of a segment in the linked file, where it begins in this block, is made by the lines
pub record IsMadeByLines (lists : List StoredIn) (s : Segment) (file : List ℕ)
    (block : ℕ) : Type 0 where
  -- what they say was there is of the input's code, and the block is this one
  pub before : (k : ℕ) (l : StoredIn) → slice_get lists k ≡ Some l → l.slot ≡ s.slot
      → (l.code ≡ s.code) × (l.block ≡ block)
  -- the bytes that a line says are there now, are there
  pub named : (at j : ℕ) (new : List ℕ) → IsLine lists s.slot at new → j < length new
      → (at + j < length s.code)
      × (slice_index file (block_len * block + (at + j)) ≡ slice_index new j)
  -- the record that a line names, by its number among those of the segment, is of that kind and
  -- that name, and has the reference to this place
  pub recorded : (at rec : ℕ) (kind : Kind) (name : List ℕ)
      → IsRecordOfLine lists s.slot at kind name rec → (r : Record)
      × (slice_get s.records rec ≡ Some r) × (kind_of r.body ≡ kind) × (r.name ≡ name)
      × SomeItem (refs_of r.body) (λ i x. x ≡ at)
  -- each byte that no line says is the input's
  pub kept : (p : ℕ) → p < length s.code → ((at : ℕ) (new : List ℕ)
      → IsLine lists s.slot at new → at ≤ p → p < at + length new → ⊥)
      → slice_index file (block_len * block + p) ≡ slice_index s.code p

-- all segments of a link are made by their lines
abbrev pub AreMadeByLines : List ℕ → List (List ℕ) → List ℕ → Type 0
AreMadeByLines host libs file = All (λ s. IsMadeByLines (all_stored host libs) s file
    (block_of (segments_of host libs) s.slot)) (segments_of host libs)
