-- The parts of a JSON document that map, show and their kin are made of: names, items of an array,
-- and words that are true or false.
-- Source: RFC 8259; which members there are is this project's profile.
use Rattle.std.specs.Prelude.{ℕ, ◌==◌, if◌then◌else◌, Bool, List, [], ◌∷◌, ◌++◌, codes, decimal}
use Rattle.std.specs.List.{enumerate_from, flat_map}
use Rattle.ps_writing.specs.Lines.{hex_byte, shown_byte}

-- a member that is a number, after another one, as `,"file":1`
abbrev pub member : List ℕ → ℕ → List ℕ
member key n = codes ",\"" ++ key ++ codes "\":" ++ decimal n

-- a byte of a name inside a string: as a line shows it, but a quote (34) and a backslash (92) have
-- a backslash before them
abbrev pub json_byte : ℕ → List ℕ
json_byte b = if b == 34 then 92 ∷ 34 ∷ [] else if b == 92 then 92 ∷ 92 ∷ []
    else shown_byte b ∷ []

-- `"name":"UTIL    ","name_hex":"5554494C20202020"`: a name as a line shows it, and all its bytes
abbrev pub json_name : List ℕ → List ℕ
json_name name = codes "\"name\":\"" ++ flat_map json_byte name ++ codes "\",\"name_hex\":\""
    ++ flat_map hex_byte name ++ codes "\""

-- what is before an item of an array on the line of the item before it
abbrev pub comma_unless : Bool → List ℕ
comma_unless first = if first then [] else codes ","

-- what is before an item of an array on a line of its own
abbrev pub line_end : Bool → List ℕ
line_end first = if first then codes "\n" else codes ",\n"

-- what is before the item of this index in an array, on a line of its own
abbrev pub separator : ℕ → List ℕ
separator i = line_end (i == 0)

abbrev pub json_bool : Bool → List ℕ
json_bool b = if b then codes "true" else codes "false"

-- one reference, of this index
abbrev pub reference_item : ℕ × ℕ → List ℕ
reference_item p = comma_unless (p.0 == 0) ++ decimal p.1

-- all references of a record, as `,"references":[1,4]`
abbrev pub references_member : List ℕ → List ℕ
references_member refs = codes ",\"references\":["
    ++ flat_map reference_item (enumerate_from 0 refs) ++ codes "]"
