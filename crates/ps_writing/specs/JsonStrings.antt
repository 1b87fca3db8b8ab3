-- What is inside the strings of a JSON document: texts, and names.
-- Source: RFC 8259; that other control characters are escaped too is this project's profile.
use Rattle.std.specs.Prelude.{ℕ, ◌==◌, ◌%◌, if◌then◌else◌, List, [], ◌∷◌, ◌++◌, Option, Some, None, chars, codes}
use Rattle.std.specs.Char.{encode_utf8, is_control}
use Rattle.std.specs.List.{flat_map}
use Rattle.ps_writing.specs.JsonText.{json_name}
use Rattle.ps_writing.specs.Lines.{hex_byte}

-- the letter that stands for a character after a backslash: a quote, a backslash, and five control
-- characters have one
abbrev pub escape_letter : ℕ → Option ℕ
escape_letter c = if c == 34 then Some 34 else if c == 92 then Some 92
    else if c == 8 then Some 98 else if c == 9 then Some 116 else if c == 10 then Some 110
    else if c == 12 then Some 102 else if c == 13 then Some 114 else None

-- a control character by its number, as `\u001B`
abbrev pub control_escape : ℕ → List ℕ
control_escape c = codes "\\u00" ++ hex_byte (c % 256)

-- any other character: a control character by its number, and any other as it is
abbrev pub other_char : ℕ → List ℕ
other_char c = if is_control c then control_escape c else encode_utf8 c

-- a character inside a string
unfoldable pub json_char : ℕ → List ℕ
json_char c = elim (escape_letter c) [
  | Some letter ↦ 92 ∷ letter ∷ []
  | None ↦ other_char c
]

-- a text inside a string
unfoldable pub json_text : List ℕ → List ℕ
json_text text = flat_map json_char (chars text)

-- `{"name":"UTIL    ","name_hex":"5554494C20202020"}`, or `null` where there is no name
abbrev pub name_or_null : Option (List ℕ) → List ℕ
name_or_null None = codes "null"
name_or_null (Some name) = codes "{" ++ json_name name ++ codes "}"

-- the two members of a name, or both `null` where there is none
abbrev pub name_members : Option (List ℕ) → List ℕ
name_members None = codes "\"name\":null,\"name_hex\":null"
name_members (Some name) = json_name name
