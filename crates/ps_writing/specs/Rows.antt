-- What map and its kin print, as values: a row is a list of values, each with its word. A row has
-- two forms, a line of text and an item of a JSON document.
-- Source: RFC 8259; which words there are is this project's profile.
use Rattle.std.specs.Prelude.{ℕ, if◌then◌else◌, Bool, List, [], ◌∷◌, ◌++◌, Some, codes, decimal}
use Rattle.std.specs.List.{flat_map, enumerate_from}
use Rattle.ps_words.specs.declared.fault.Fault.{Fault}
use Rattle.ps_writing.specs.JsonText.{json_bool, json_name, member, references_member, separator}
use Rattle.ps_writing.specs.FaultJson.{fault_json}
use Rattle.ps_writing.specs.Lines.{fault_words, hex_byte, references, shown_name, two_digits}
use Rattle.ps_writing.specs.declared.rows.Form.{Form}
use Rattle.ps_writing.specs.declared.rows.Form.TheVariants.{Lines, Json}
use Rattle.ps_writing.specs.declared.rows.RowPart.{RowPart}
use Rattle.ps_writing.specs.declared.rows.RowPart.TheVariants as part

-- A value of a row: the slot and the name, or the kind, that a row begins with; the number that the
-- last row begins with; a number; a number that a line has in two digits; whether the word holds;
-- of a record its index, which its row begins with, its kind, its name and its references, or a
-- fault in place of these, with the name of what it is about; what is stored, with the slot and
-- the name of its segment, which a row begins with; and bytes.
pub data Value : Type 0 where
  InSlot : List ℕ → ℕ → List ℕ → Value
  OfKind : List ℕ → Value
  Total : List ℕ → ℕ → Value
  Number : List ℕ → ℕ → Value
  Short : List ℕ → ℕ → Value
  Flag : List ℕ → Bool → Value
  Record : ℕ → Value
  Kind : List ℕ → Value
  Named : List ℕ → Value
  References : List ℕ → Value
  Refused : Fault → List ℕ → Value
  Stored : List ℕ → ℕ → List ℕ → Value
  Bytes : List ℕ → List ℕ → Value

-- the value of a part of a row in the code
abbrev pub value_of : RowPart → Value
value_of (part.InSlot word slot name) = InSlot word.now slot name
value_of (part.OfKind kind) = OfKind kind.now
value_of (part.Total word n) = Total word.now n
value_of (part.Number word n) = Number word.now n
value_of (part.Short word n) = Short word.now n
value_of (part.Flag word b) = Flag word.now b
value_of (part.Record rec) = Record rec
value_of (part.Kind kind) = Kind kind.now
value_of (part.Named name) = Named name
value_of (part.References refs) = References refs.now
value_of (part.Refused f name) = Refused f name
value_of (part.Stored word slot name) = Stored word.now slot name
value_of (part.Bytes word bytes) = Bytes word.now bytes.now

-- a value in a line, as `segment 08 AUX     `, `public`, ` COUNT   `, `next 12`, ` file 1`,
-- ` entry 03`, ` added` or ` was 8000`
abbrev pub in_line : Value → List ℕ
in_line (InSlot word slot name) = word ++ two_digits slot ++ (32 ∷ []) ++ shown_name name
in_line (OfKind kind) = kind
in_line (Total word n) = word ++ ((32 ∷ []) ++ decimal n)
in_line (Number word n) = (32 ∷ []) ++ word ++ ((32 ∷ []) ++ decimal n)
in_line (Short word n) = (32 ∷ []) ++ word ++ ((32 ∷ []) ++ two_digits n)
in_line (Flag word b) = if b then (32 ∷ []) ++ word else []
in_line (Record rec) = decimal rec
in_line (Kind kind) = (32 ∷ []) ++ kind
in_line (Named name) = (32 ∷ []) ++ shown_name name
in_line (References refs) = references refs
in_line (Refused f name) = (32 ∷ []) ++ fault_words f.reason
in_line (Stored word slot name) =
    word ++ ((32 ∷ []) ++ two_digits slot ++ (32 ∷ []) ++ shown_name name)
in_line (Bytes word bytes) = (32 ∷ []) ++ word ++ ((32 ∷ []) ++ flat_map hex_byte bytes)

-- a value in an item, as `{"slot":8,"name":..`, `{"kind":"public"`, `,"name":..`, `,"next":12`,
-- `,"entry":3`, `,"added":true` or `,"was":"8000"`
abbrev pub in_item : Value → List ℕ
in_item (InSlot word slot name) =
    codes "{\"slot\":" ++ decimal slot ++ (codes "," ++ json_name name)
in_item (OfKind kind) = codes "{\"kind\":\"" ++ kind ++ codes "\""
in_item (Total word n) = member word n
in_item (Number word n) = member word n
in_item (Short word n) = member word n
in_item (Flag word b) = codes ",\"" ++ word ++ codes "\":" ++ json_bool b
in_item (Record rec) = codes "{\"record\":" ++ decimal rec
in_item (Kind kind) = codes ",\"kind\":\"" ++ kind ++ codes "\""
in_item (Named name) = codes "," ++ json_name name
in_item (References refs) = references_member refs
in_item (Refused f name) = codes ",\"kind\":\"fault\",\"fault\":" ++ fault_json (Some name) f
in_item (Stored word slot name) =
    codes "{\"stores\":\"" ++ word ++ codes "\"" ++ member (codes "slot") slot
    ++ (codes "," ++ json_name name)
in_item (Bytes word bytes) =
    codes ",\"" ++ word ++ codes "\":\"" ++ (flat_map hex_byte bytes ++ codes "\"")

abbrev pub value_in : Form → Value → List ℕ
value_in Lines v = in_line v
value_in Json v = in_item v

abbrev pub values_in : Form → List Value → List ℕ
values_in form row = flat_map (value_in form) row

-- what a line has and what a document has in its place, as what is before a row and after it
abbrev pub by_form : Form → List ℕ → List ℕ → List ℕ
by_form Lines line item = line
by_form Json line item = item

-- a fault, with the name of what it is about
abbrev pub fault_as : Form → Fault → List ℕ → List ℕ
fault_as Lines f name = fault_words f.reason
fault_as Json f name = fault_json (Some name) f

-- the row of this index
abbrev pub row_in : Form → ℕ → List Value → List ℕ
row_in form i row = by_form form [] (separator i) ++ values_in form row
    ++ by_form form (codes "\n") (codes "}")

-- the row of an item, as that of its index
abbrev pub row_item : {X : Type 0} → Form → (X → List Value) → ℕ × X → List ℕ
row_item form row_of p = row_in form p.0 (row_of p.1)

-- the rows of these items, from this index on, and from the first
abbrev pub rows_from : {X : Type 0} → Form → (X → List Value) → ℕ → List X → List ℕ
rows_from form row_of i xs = flat_map (row_item form row_of) (enumerate_from i xs)

abbrev pub rows_in : {X : Type 0} → Form → (X → List Value) → List X → List ℕ
rows_in form row_of xs = rows_from form row_of 0 xs
