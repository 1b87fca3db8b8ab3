-- A linked byte, said plainly: which place of a segment has the number of its slot, which have the
-- data size of the host's outer block, which have what a reference becomes, and which keep their
-- input's byte.
-- Source: the link records and the data size of the outer block are those of the published II.0
-- Linker source, and BIG operands those of the UCSD Pascal II.0 manual; the order of the privates
-- is this project's profile.
use Rattle.std.specs.Prelude.{◌≡◌, ℕ, ◌+◌, ◌-◌, ◌<◌, ◌≤◌, ◌==◌, nat_lt, if◌then◌else◌, List, [], ◌∷◌, ◌++◌, length, map, take, slice_get, slice_index, true, Some, All}
use Rattle.std.specs.List.{flat_map, enumerate_from}
use Rattle.ps_words.specs.Words.{word_bytes, operand_bytes, displacement_at}
use Rattle.ps_words.specs.declared.order.Order.{Order}
use Rattle.ps_words.specs.declared.edit.Edit.{Edit}
use Rattle.ps_words.specs.declared.edit.Edit.TheVariants.{Byte}
use Rattle.ps_codefile.specs.Procedures.{table_of}
use Rattle.ps_reading.specs.Added.{segments}
use Rattle.ps_resolve.specs.Privates.{total_words}
use Rattle.ps_reading.specs.Standing.Phrases.{SomeItem}
use Rattle.ps_linkinfo.specs.Operands.{operand_width}
use Rattle.ps_linkinfo.specs.RecordCounts.{next_of}
use Rattle.ps_linkinfo.specs.Records.{refs_of}
use Rattle.ps_linkinfo.specs.declared.record.Body.{Body}
use Rattle.ps_linkinfo.specs.declared.record.Body.TheVariants.{UnitRef, PublRef, PrivRef, PublDef, ConstDef, Eof}
use Rattle.ps_linkinfo.specs.declared.record.LinkRecord.{LinkRecord as Record}
use Rattle.ps_codefile.specs.Roles.{needs_linking, is_host, is_unit}
use Rattle.ps_reading.specs.Sources.{Segment, host_records, order_of}
use Rattle.ps_resolve.specs.References.{words_taken_by, record_edits}
use Rattle.ps_resolve.specs.Linking.{edited_segments, known_of, data_edits, grown_data_size, linked_byte}

-- reference i of record r, the segment's record `rec`, has its operand at x
abbrev pub IsReference : Segment → ℕ → Record → ℕ → ℕ → Type 0
IsReference s rec r i x = (slice_get s.records rec ≡ Some r)
    × (slice_get (refs_of r.body) i ≡ Some x)

-- the operand at x covers the place
abbrev pub Covers : Body → ℕ → ℕ → Type 0
Covers body x p = (x ≤ p) × (p < x + operand_width body)

-- the operand of a reference covers place p
abbrev pub Reaches : Segment → ℕ → Record → ℕ → ℕ → ℕ → Type 0
Reaches s rec r i x p = IsReference s rec r i x × Covers r.body x p

-- a segment of the link is the unit of this name, and has this slot
abbrev pub IsSlotOf : List Segment → List ℕ → ℕ → Type 0
IsSlotOf segs name slot =
    SomeItem segs (λ k q. (is_unit q.role ≡ true) × (q.name ≡ name) × (q.slot ≡ slot))

-- r is record `rec` of the host's own segment
abbrev pub IsHostRecord : List Segment → ℕ → Record → Type 0
IsHostRecord segs rec r =
    SomeItem segs (λ k h. (is_host h.role ≡ true) × (slice_get h.records rec ≡ Some r))

-- a PUBLDEF record of the host's segment gives the name this value
abbrev pub IsPublic : List Segment → List ℕ → ℕ → Type 0
IsPublic segs name value = (rec : ℕ) × (d : Record) × IsHostRecord segs rec d
    × ((d.name ≡ name) × (d.body ≡ PublDef value))

-- the end mark of the host's link information gives this base offset
abbrev pub IsBase : List Segment → ℕ → Type 0
IsBase segs base = (rec : ℕ) × (r : Record) × IsHostRecord segs rec r × (r.body ≡ Eof base)

-- the words of the privates of all segments
abbrev pub all_private_words : List Segment → ℕ
all_private_words segs = words_taken_by (flat_map (λ s. s.records) segs)

-- the records of a segment that are before record `rec` of slot `slot`: all of a smaller slot, and
-- the first `rec` of the slot itself
abbrev pub records_before : ℕ → ℕ → Segment → List Record
records_before slot rec s = if nat_lt s.slot slot then s.records
    else (if s.slot == slot then take rec s.records else [])

-- the words of all privates before record `rec` of slot `slot`, by slot and then by record
abbrev pub words_before : List Segment → ℕ → ℕ → ℕ
words_before segs slot rec = words_taken_by (flat_map (records_before slot rec) segs)

-- the offset of the private of record `rec` in slot `slot`: the base offset of the host's end mark,
-- and the words of all privates before it
abbrev pub private_offset : List Segment → ℕ → ℕ → ℕ
private_offset segs slot rec = next_of (host_records segs) + words_before segs slot rec

-- The bytes that the operand at x of record `rec` becomes: of a UNITREF the slot of the unit of its
-- name; of a PUBLREF, as a BIG operand, its displacement and the value of the public definition of
-- its name; of a PRIVREF, as a BIG operand, its displacement and the offset of its private: the
-- base offset of the host's end mark and the words of all privates before it, by slot and then by
-- record. The other records have no operands.
abbrev pub Becomes : List Segment → Segment → ℕ → List ℕ → Body → ℕ → List ℕ
    → Type 0
Becomes segs s rec name (UnitRef refs) x bytes =
    (slot : ℕ) × IsSlotOf segs name slot × (bytes ≡ slot ∷ [])
Becomes segs s rec name (PublRef refs) x bytes =
    (value : ℕ) × IsPublic segs name value
    × (bytes ≡ operand_bytes (displacement_at s.code x + value))
Becomes segs s rec name (PrivRef words refs) x bytes =
    (base : ℕ) × IsBase segs base
    × (bytes ≡ operand_bytes (displacement_at s.code x +
    (base + words_before segs s.slot rec)))
Becomes segs s rec name (PublDef value) x bytes = ⊥
Becomes segs s rec name (ConstDef value) x bytes = ⊥
Becomes segs s rec name (Eof next) x bytes = ⊥

-- the last place but one of a segment whose references are resolved
abbrev pub IsNumberPlace : Segment → ℕ → Type 0
IsNumberPlace s p = (needs_linking s.role ≡ true) × (p + 2 ≡ length s.code)

-- byte j of the data size of the host's outer block, whose attribute table is at t
abbrev pub IsSizePlace : Order → Segment → ℕ → ℕ → ℕ → Type 0
IsSizePlace order s t j p = (is_host s.role ≡ true) × (table_of order s.code 1 ≡ Some t)
    × (j < 2) × (p + 8 ≡ t + j)

-- b is at place p of the segment's code in the linked file
pub record IsLinkedByte (order : Order) (segs : List Segment) (s : Segment) (p b : ℕ) : Type 0
  where
    -- the number of the segment is its slot
    pub number : IsNumberPlace s p → b ≡ s.slot
    -- the data size is the input's, and two bytes more for each private word
    pub size : (t j : ℕ) → IsSizePlace order s t j p → b ≡ slice_index (word_bytes order
        (grown_data_size order s.code (all_private_words segs) t)) j
    -- a reference's operand becomes what the reference names
    pub reference : (rec i x : ℕ) (r : Record) → Reaches s rec r i x p
        → (bytes : List ℕ) × Becomes segs s rec r.name r.body x bytes
        × (b ≡ slice_index bytes (p - x))
    -- every other byte is kept
    pub kept : (IsNumberPlace s p → ⊥) → ((t j : ℕ) → IsSizePlace order s t j p → ⊥)
        → ((rec i x : ℕ) (r : Record) → Reaches s rec r i x p → ⊥)
        → b ≡ slice_index s.code p

-- no place has two of a number, a byte of a data size and a byte of a reference's operand
pub record IsOnePlace (order : Order) (s : Segment) (p : ℕ) : Type 0 where
  pub references : (rec i x other j y : ℕ) (r q : Record) → Reaches s rec r i x p
      → Reaches s other q j y p → (rec ≡ other) × (i ≡ j)
  pub number : (rec i x : ℕ) (r : Record) → Reaches s rec r i x p → IsNumberPlace s p → ⊥
  pub size : (rec i x t j : ℕ) (r : Record) → Reaches s rec r i x p
      → IsSizePlace order s t j p → ⊥
  pub own : (t j : ℕ) → IsNumberPlace s p → IsSizePlace order s t j p → ⊥

-- the segments of a link of these files
abbrev pub segments_of : List ℕ → List (List ℕ) → List Segment
segments_of host libs = segments (order_of host) host libs

-- the bytes that the edits of each segment make are its linked bytes
abbrev pub HaveLinkedBytes : List ℕ → List (List ℕ) → Type 0
HaveLinkedBytes host libs =
    All (λ (e : Segment × List Edit). (p : ℕ) → p < length e.0.code
    → IsLinkedByte (order_of host) (segments_of host libs) e.0 p
    (linked_byte (order_of host) e p)) (edited_segments (order_of host) (segments_of host libs))

-- at each place of a segment there is one linked byte at most
abbrev pub HaveOneLinkedByte : List ℕ → List (List ℕ) → Type 0
HaveOneLinkedByte host libs =
    All (λ s. (p b c : ℕ) → IsLinkedByte (order_of host) (segments_of host libs) s p b
    → IsLinkedByte (order_of host) (segments_of host libs) s p c → b ≡ c)
    (segments_of host libs)

-- no place of a segment is covered twice
abbrev pub HaveApartPlaces : List ℕ → List (List ℕ) → Type 0
HaveApartPlaces host libs = All (λ s. (p : ℕ) → IsOnePlace (order_of host) s p)
    (segments_of host libs)

-- the edits of a segment, with the offset of each private as the sum of what is before it
abbrev pub summed_edits : Order → List Segment → Segment → List Edit
summed_edits order segs s =
    if needs_linking s.role
    then Byte s.slot (length s.code - 2)
    ∷ ((if is_host s.role then data_edits order (total_words segs) s.code else [])
    ++ flat_map (λ r. record_edits (known_of segs) s.code (private_offset segs s.slot r.0) r.1)
    (enumerate_from 0 s.records))
    else []

-- a segment with the edits that have summed offsets
abbrev pub summed_segment : Order → List Segment → Segment → Segment × List Edit
summed_segment order segs s = (s, summed_edits order segs s)

-- the offset that runs along with the records of a link is the sum of what is before each of them
abbrev pub HaveSummedOffsets : List ℕ → List (List ℕ) → Type 0
HaveSummedOffsets host libs = edited_segments (order_of host) (segments_of host libs)
    ≡ map (summed_segment (order_of host) (segments_of host libs)) (segments_of host libs)
