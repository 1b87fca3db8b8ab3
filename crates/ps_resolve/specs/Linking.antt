-- What is stored in each segment of the linked file, and what then is found at each place of its
-- code.
-- Source: this project's profile; the data size of the outer block that grows by the private words
-- is that of the published II.0 Linker source.
use Rattle.std.specs.Prelude.{ℕ, ◌+◌, ◌-◌, ◌*◌, if◌then◌else◌, List, [], ◌∷◌, ◌++◌, length}
use Rattle.std.specs.Option.{option_map_or}
use Rattle.ps_words.specs.Words.{word_at}
use Rattle.ps_words.specs.Edits.{patched_byte}
use Rattle.ps_words.specs.declared.order.Order.{Order}
use Rattle.ps_words.specs.declared.edit.Edit.{Edit}
use Rattle.ps_words.specs.declared.edit.Edit.TheVariants.{Byte, Word}
use Rattle.ps_codefile.specs.Procedures.{table_of}
use Rattle.ps_linkinfo.specs.RecordCounts.{next_of}
use Rattle.ps_resolve.specs.Privates.{private_words, total_words}
use Rattle.ps_codefile.specs.Roles.{needs_linking, is_host}
use Rattle.ps_reading.specs.Sources.{Segment, host_of, host_records, units_of}
use Rattle.ps_resolve.specs.Symbols.{definitions}
use Rattle.ps_resolve.specs.References.{Known, known_by, records_edits}

-- what names stand for by the definitions of the host's segment and by the units of the link
abbrev pub known_of : List Segment → Known
known_of segs = known_by (definitions (host_records segs)) (units_of segs)

-- where the data size of procedure 1 is
abbrev pub data_place : ℕ → ℕ
data_place table = table - 8

-- the data size of the host's outer block, grown by two bytes for each of the private words
abbrev pub grown_data_size : Order → List ℕ → ℕ → ℕ → ℕ
grown_data_size order code words table = word_at order code (data_place table) + 2 * words

-- the grown data size of the outer block of a code, which a host's has
abbrev pub data_size_of : Order → ℕ → List ℕ → ℕ
data_size_of order words code = option_map_or (grown_data_size order code words)
    (table_of order code 1) 0

-- the grown data size of the host's segment
abbrev pub data_size : Order → List Segment → ℕ
data_size order segs = option_map_or (λ s. data_size_of order (total_words segs) s.code)
    (host_of segs) 0

-- the edit of the data size in the code of the host segment, grown by the private words
abbrev pub data_edits : Order → ℕ → List ℕ → List Edit
data_edits order words code =
    option_map_or (λ t. Word (grown_data_size order code words t) (data_place t) ∷ [])
    (table_of order code 1) []

-- All edits of a segment, where so many private words are allotted in all and the first of its own
-- privates has the offset `free`: the number of its slot, at the last place but one of its code; in
-- the host's segment, the grown data size of its outer block; for each reference, the number of the
-- unit's slot, or the displacement and the value of the definition or the private. A segment that
-- is linked already has none.
abbrev pub segment_edits : Order → Known → ℕ → ℕ → Segment → List Edit
segment_edits order known words free s =
    if needs_linking s.role
    then Byte s.slot (length s.code - 2)
    ∷ ((if is_host s.role then data_edits order words s.code else [])
    ++ records_edits known s.code free s.records)
    else []

-- segments, each with its edits: the privates of each follow those of the segments before it
abbrev pub edited_from : Order → Known → ℕ → ℕ → List Segment
    → List (Segment × List Edit)
edited_from order known words free [] = []
edited_from order known words free (s ∷ ss) =
    (s, segment_edits order known words free s)
    ∷ edited_from order known words (free + private_words s.records) ss

-- the segments of a link, each with its edits
abbrev pub edited_segments : Order → List Segment → List (Segment × List Edit)
edited_segments order segs = edited_from order (known_of segs) (total_words segs)
    (next_of (host_records segs)) segs

-- the byte at place p of a segment, with its edits, in the linked file: what its edit there stores,
-- and its input's byte where it has none there
abbrev pub linked_byte : Order → Segment × List Edit → ℕ → ℕ
linked_byte order (s, edits) p = patched_byte order s.code edits p
