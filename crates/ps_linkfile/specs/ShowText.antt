-- What a code file has: its byte order, its sixteen slots, and the link information of each segment
-- that is to be linked, record by record.
use Rattle.std.specs.Prelude.{◌≡◌, ℕ, ◌==◌, ◌&&◌, ◌||◌, if◌then◌else◌, List, [], ◌∷◌, ◌++◌, length, map, nat_lt, codes, not, Bool, Option, Some, None, Ok, Err}
use Rattle.std.specs.List.{flat_map, enumerate_from, filter, list_any}
use Rattle.std.specs.Str.{bytes_eq}
use Rattle.ps_words.specs.declared.order.Order.{Order}
use Rattle.ps_words.specs.declared.order.Order.TheVariants.{Little, Big}
use Rattle.ps_words.specs.FaultPlaces.{in_file, in_record, in_slot}
use Rattle.ps_words.specs.declared.fault.Reason.{Reason}
use Rattle.ps_words.specs.declared.fault.Reason.TheVariants as reason
use Rattle.ps_words.specs.declared.fault.Fault.{Fault as FileFault}
use Rattle.ps_codefile.specs.Dictionary.{slots, block_len, OpenedFile, FileOrder, Zero, Ordered, Mixed, file_order, entry_at, is_filled, code_of, information_of}
use Rattle.ps_codefile.specs.declared.entry.Entry.{Entry}
use Rattle.ps_linkinfo.specs.Kinds.{kind_of, kind_word}
use Rattle.ps_linkinfo.specs.Records.{reading}
use Rattle.ps_linkinfo.specs.declared.record.Body.{Body}
use Rattle.ps_linkinfo.specs.declared.record.Body.TheVariants.{UnitRef, PublRef, PrivRef, PublDef, ConstDef, Eof}
use Rattle.ps_linkinfo.specs.declared.record.LinkRecord.{LinkRecord}
use Rattle.ps_codefile.specs.Roles.{is_unit}
use Rattle.ps_resolve.specs.Sources.{known_order}
use Rattle.ps_resolve.specs.Faults.{is_role}
use Rattle.ps_writing.specs.JsonText.{separator}
use Rattle.ps_writing.specs.Lines.{line, two_digits}
use Rattle.ps_writing.specs.Rows.{Value, InSlot, Number, Flag, Record, Kind, Named, References, Refused as RefusedFor, by_form, fault_as, row_in, values_in}
use Rattle.ps_writing.specs.declared.rows.Form.{Form}
use Rattle.ps_writing.specs.declared.rows.Form.TheVariants.{Lines, Json}
use Rattle.ps_linkfile.specs.declared.error.LinkError.{LinkError}
use Rattle.ps_linkfile.specs.declared.error.LinkError.TheVariants.{Refused, Memory, Write}

-- the first line: the byte order; a file whose kinds are all 0 has none, and is read as
-- little-endian
abbrev pub order_words : FileOrder → List ℕ
order_words Zero = codes "order unknown"
order_words (Ordered Little) = codes "order little"
order_words (Ordered Big) = codes "order big"
order_words Mixed = []

-- the row of a slot, as `slot 02 UTIL     kind 3 address 1 length 24 text 0`
abbrev pub slot_row : ℕ → Entry → List Value
slot_row slot e = InSlot (codes "slot ") slot e.name ∷ Number (codes "kind") e.kind
    ∷ Number (codes "address") e.address ∷ Number (codes "length") e.length
    ∷ Number (codes "text") e.text ∷ []

-- the row of an entry, but for the end of an item, in which the link information follows
abbrev pub entry_in : Form → ℕ → Entry → List ℕ
entry_in form slot e = by_form form [] (separator slot) ++ values_in form (slot_row slot e)
    ++ by_form form (codes "\n") []

unfoldable pub slot_line : Order → List ℕ → ℕ → List ℕ
slot_line order file slot = entry_in Lines slot (entry_at order file slot)

-- the names of the slots that have a unit, in place or wanted
unfoldable pub unit_names : Order → List ℕ → List (List ℕ)
unit_names order file = map (λ slot. (entry_at order file slot).name)
    (filter (is_role is_unit order file) slots)

-- a unit of these has the name
abbrev pub is_listed : List (List ℕ) → List ℕ → Bool
is_listed units name = list_any (λ unit. bytes_eq unit name) units

-- what a record has beside its kind, in a file with these units
abbrev pub body_row : List (List ℕ) → List ℕ → Body → List Value
body_row units name (UnitRef refs) = Named name ∷ References refs
    ∷ Flag (codes "unlisted") (not (is_listed units name)) ∷ []
body_row units name (PublRef refs) = Named name ∷ References refs ∷ []
body_row units name (PrivRef words refs) =
    Named name ∷ Number (codes "words") words ∷ References refs ∷ []
body_row units name (PublDef value) = Named name ∷ Number (codes "value") value ∷ []
body_row units name (ConstDef value) = Named name ∷ Number (codes "value") value ∷ []
body_row units name (Eof next) = Number (codes "next") next ∷ []

-- the row of a record, as `0 PUBLREF COUNT    at 1`
abbrev pub record_in : Form → List (List ℕ) → ℕ × LinkRecord → List ℕ
record_in form units r = row_in form r.0
    (Record r.0 ∷ Kind (kind_word (kind_of r.1.body)) ∷ body_row units r.1.name r.1.body)

-- the row of a fault in place of a record of the segment in a slot, which has this name, as
-- `2 fault 19 RecordsTruncated`
abbrev pub record_fault_in : Form → ℕ → List ℕ → ℕ → Option Reason → List ℕ
record_fault_in form slot name rec None = []
record_fault_in form slot name rec (Some why) =
    row_in form rec (Record rec ∷ RefusedFor (in_record 0 slot rec why) name ∷ [])

-- the records up to the end mark, or up to the first fault and that fault
abbrev pub records_in : Form → List (List ℕ) → ℕ → List ℕ
    → List LinkRecord × Option Reason → List ℕ
records_in form units slot name read = flat_map (record_in form units) (enumerate_from 0 read.0)
    ++ record_fault_in form slot name (length read.0) read.1

-- the slot has a host segment or a unit
abbrev pub has_links : Entry → Bool
has_links e = is_filled e && (e.kind == 1 || e.kind == 3)

-- `links 02`, which only lines have
abbrev pub links_head : Form → ℕ → List ℕ
links_head Lines slot = line (codes "links " ++ two_digits slot)
links_head Json slot = []

-- the link information of a slot's segment: the fault of its code, or its records; neither for a
-- slot without link information
unfoldable pub links_in : Form → Order → List ℕ → ℕ → List ℕ
links_in form order file slot =
    let e = entry_at order file slot in
    if has_links e
    then links_head form slot ++ (elim (code_of file e) [
      | Err why ↦ by_form form [] (codes ",\"fault\":")
          ++ fault_as form (in_slot 0 slot why) e.name
          ++ by_form form (codes "\n") (codes ",\"records\":[]")
      | Ok code ↦ by_form form [] (codes ",\"fault\":null,\"records\":[")
          ++ records_in form (unit_names order file) slot e.name
          (reading order (information_of file e))
          ++ by_form form [] (codes "\n]")
    ])
    else by_form form [] (codes ",\"fault\":null,\"records\":null")

-- the lines of a slot's link information
unfoldable pub links_lines : Order → List ℕ → ℕ → List ℕ
links_lines order file slot = links_in Lines order file slot

-- the text of a file that shows this order, and whose words are read in that one
abbrev pub shown_file : FileOrder → Order → List ℕ → List ℕ
shown_file found order file = line (order_words found) ++ flat_map (slot_line order file) slots
    ++ flat_map (links_in Lines order file) slots

-- the show of a code file
unfoldable pub show_of : List ℕ → List ℕ
show_of file = shown_file (file_order file) (known_order (file_order file)) file

-- what kind words show of the byte order: this one, or none
abbrev pub order_shown : Option Order → FileOrder
order_shown None = Zero
order_shown (Some order) = Ordered order

-- why a file of 512 bytes or more cannot be shown: its kind words fit neither byte order
abbrev pub order_fault : FileOrder → Option FileFault
order_fault Zero = None
order_fault (Ordered order) = None
order_fault Mixed = Some (in_file 0 reason.NoOrder)

-- why a file cannot be shown: it has under 512 bytes, or its kind words fit neither byte order
abbrev pub show_fault : List ℕ → Option FileFault
show_fault file = if nat_lt (length file) block_len then Some (in_file 0 reason.ShortFile)
    else order_fault (file_order file)

-- why there is no text: that fault, or memory ran out although there is no fault; never a write
abbrev pub IsUnshown : List ℕ → LinkError → Type 0
IsUnshown file (Refused fault) = show_fault file ≡ Some fault
IsUnshown file Memory = show_fault file ≡ None
IsUnshown file (Write fault) = ⊥

-- a file that can be shown, with the byte order that its kind words show and the one in which its
-- words are read
pub record IsShown (found : Option Order) (opened : OpenedFile) : Type 0 where
  pub order : order_shown found ≡ file_order opened.file
  pub dict : opened ≡ record { order = known_order (file_order opened.file); file = opened.file }
  pub sound : show_fault opened.file ≡ None
