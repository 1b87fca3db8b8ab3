-- What a link stores in each segment: by slot and then by place, a row for the number of the
-- segment, for the data size of the host's outer block, and for each reference.
use Rattle.std.specs.Prelude.{ℕ, ◌+◌, ◌*◌, ◌==◌, if◌then◌else◌, Bool, false, List, [], ◌∷◌, ◌++◌, length, map, take, drop, codes, Option, Some, None}
use Rattle.std.specs.List.{flat_map, enumerate_from, filter, list_any, range_with_len}
use Rattle.std.specs.Option.{option_or}
use Rattle.ps_words.specs.Edits.{patched_byte}
use Rattle.ps_words.specs.declared.order.Order.{Order}
use Rattle.ps_words.specs.declared.edit.Edit.{Edit}
use Rattle.ps_words.specs.declared.edit.Edit.TheVariants.{Big, Byte, Word}
use Rattle.ps_codefile.specs.Dictionary.{block_len}
use Rattle.ps_codefile.specs.Roles.{needs_linking}
use Rattle.ps_linkinfo.specs.Kinds.{kind_of, kind_width, kind_word}
use Rattle.ps_linkinfo.specs.Numbered.{numbered_records}
use Rattle.ps_linkinfo.specs.Records.{refs_of}
use Rattle.ps_linkinfo.specs.declared.record.LinkRecord.{LinkRecord as Record}
use Rattle.ps_resolve.specs.Sources.{Segment, order_of}
use Rattle.ps_resolve.specs.LinkedBytes.{segments_of}
use Rattle.ps_linkfile.specs.LinkedFile.{block_of, linked_segments}
use Rattle.ps_writing.specs.JsonText.{separator}
use Rattle.ps_writing.specs.Rows.{Value, Stored, Named, Number, Bytes, by_form, values_in}
use Rattle.ps_writing.specs.declared.rows.Form.{Form}
use Rattle.ps_writing.specs.declared.rows.Form.TheVariants.{Lines}
use Rattle.ps_linkfile.specs.declared.cause.Cause.{Cause}
use Rattle.ps_linkfile.specs.declared.cause.Cause.TheVariants.{DataSize, Reference}
use Rattle.ps_linkfile.specs.declared.cause.Cause.TheVariants as cause

-- the segment's number is at the last place but one of its code
abbrev pub number_at : ℕ → ℕ → Option Cause
number_at size p = if p + 2 == size then Some cause.Number else None

-- the edit stores a word that begins at the place
abbrev pub is_word_at : ℕ → Edit → Bool
is_word_at p (Big value place) = false
is_word_at p (Byte value place) = false
is_word_at p (Word value place) = place == p

-- the one word that a link stores is the data size of the host's outer block
abbrev pub size_at : List Edit → ℕ → Option Cause
size_at edits p = if list_any (is_word_at p) edits then Some DataSize else None

-- what the record stores at a place that is one of its references
abbrev pub record_at : ℕ × Record → ℕ → Option Cause
record_at r p = if list_any (λ x. x == p) (refs_of r.1.body)
    then Some (Reference (kind_of r.1.body) r.1.name r.0) else None

-- what the first of the records stores there that refers to the place
abbrev pub records_at : List (ℕ × Record) → ℕ → Option Cause
records_at [] p = None
records_at (r ∷ rs) p = option_or (record_at r p) (records_at rs p)

-- Why a link stores what begins at the place, in a code of this size, with these edits and these
-- records. No place has two of them, where no fault applies.
abbrev pub cause_at : ℕ → List Edit → List Record → ℕ → Option Cause
cause_at size edits records p = option_or (number_at size p)
    (option_or (size_at edits p) (records_at (numbered_records 0 records) p))

-- a segment's code before and after a link, and why the link stores what begins at each place; in
-- the linked file the code begins in this block
pub record StoredIn : Type 0 where
  pub slot : ℕ
  pub name : List ℕ
  pub block : ℕ
  pub code : List ℕ
  pub linked : List ℕ
  pub causes : List (Option Cause)

-- what a link stores in a segment with these edits, whose code begins in this block
abbrev pub stored_in : Order → ℕ → Segment → List Edit → StoredIn
stored_in order block s edits = record {
  slot = s.slot;
  name = s.name;
  block = block;
  code = s.code;
  linked = map (patched_byte order s.code edits) (range_with_len 0 (length s.code));
  causes = map (cause_at (length s.code) edits s.records) (range_with_len 0 (length s.code));
}

-- how many bytes are stored
abbrev pub cause_width : Cause → ℕ
cause_width cause.Number = 1
cause_width DataSize = 2
cause_width (Reference kind name rec) = kind_width kind

-- the first word of its row
abbrev pub cause_word : Cause → List ℕ
cause_word cause.Number = codes "number"
cause_word DataSize = codes "data size"
cause_word (Reference kind name rec) = codes "reference"

-- so many bytes of a code from a place on, or those that are there
abbrev pub bytes_at : List ℕ → ℕ → ℕ → List ℕ
bytes_at code p width = take width (drop p code)

-- the row of a place, as `number 07 UTIL     at 22 file 1046 was 02 is 07`: the slot and the name
-- of the segment, the place in its code and in the linked file, and the bytes there before and
-- after the link
abbrev pub place_row : Form → StoredIn → ℕ → Cause → List Value
place_row form s p cause =
    Stored (cause_word cause) s.slot s.name ∷ Number (codes "at") p
    ∷ Number (by_form form (codes "file") (codes "offset")) (block_len * s.block + p)
    ∷ Bytes (codes "was") (bytes_at s.code p (cause_width cause))
    ∷ Bytes (codes "is") (bytes_at s.linked p (cause_width cause)) ∷ []

-- the record of a reference, as ` PUBLREF COUNT    record 0` or
-- `,"record":{"kind":"PUBLREF","name":..,"name_hex":..,"index":0}`; nothing else has one
abbrev pub record_in : Form → Cause → List ℕ
record_in form cause.Number = by_form form [] (codes ",\"record\":null")
record_in form DataSize = by_form form [] (codes ",\"record\":null")
record_in form (Reference kind name rec) =
    by_form form (codes " ") (codes ",\"record\":{\"kind\":\"") ++ kind_word kind
    ++ by_form form [] (codes "\"") ++ values_in form
    (Named name ∷ Number (by_form form (codes "record") (codes "index")) rec ∷ [])
    ++ by_form form [] (codes "}")

-- what is after an item: the number of a segment is the last that a link stores there
abbrev pub item_end : Cause → List ℕ
item_end cause.Number = codes "}"
item_end DataSize = codes "},\n"
item_end (Reference kind name rec) = codes "},\n"

-- the row of a place with its record, if a link stores what begins there
abbrev pub place_in : Form → StoredIn → ℕ × Option Cause → List ℕ
place_in form s (p, None) = []
place_in form s (p, Some cause) = values_in form (place_row form s p cause)
    ++ record_in form cause ++ by_form form (codes "\n") (item_end cause)

-- the rows of a segment, by place
abbrev pub stored_rows : Form → ℕ × StoredIn → List ℕ
stored_rows form s = by_form form [] (separator s.0)
    ++ flat_map (place_in form s.1) (enumerate_from 0 s.1.causes)

-- what is stored in all segments, by slot; in a document it is after the members of the map
abbrev pub references_in : Form → List StoredIn → List ℕ
references_in form all_stored = by_form form [] (codes ",\"references\":[")
    ++ flat_map (stored_rows form) (enumerate_from 0 all_stored)
    ++ by_form form [] (codes "\n]}\n")

-- what a link stores in each of these segments with their edits, by slot, where the codes are of
-- all of them; nothing is stored in one that is linked already
abbrev pub all_stored_in : Order → List Segment → List (Segment × List Edit) → List StoredIn
all_stored_in order segs es =
    map (λ e. stored_in order (block_of segs e.0.slot) e.0 e.1)
    (filter (λ e. needs_linking e.0.role) es)

-- what a link of a host and its libraries stores, by slot
unfoldable pub all_stored_of : List ℕ → List (List ℕ) → List StoredIn
all_stored_of host libs =
    all_stored_in (order_of host) (segments_of host libs) (linked_segments host libs)

-- the lines of that
unfoldable pub references_of : List ℕ → List (List ℕ) → List ℕ
references_of host libs = references_in Lines (all_stored_of host libs)
