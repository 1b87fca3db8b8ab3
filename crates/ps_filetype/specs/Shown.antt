-- How names, numbers of slots and paths are shown in a line for a person.
use Rattle.std.specs.Prelude.{ℕ, ◌==◌, ◌&&◌, ◌||◌, ◌+◌, ◌/◌, ◌%◌, not, if◌then◌else◌, Bool, false, Option, Some, None, List, [], ◌∷◌, ◌++◌, length, nat_le, nat_lt, chars}
use Rattle.std.specs.Char.{encode_utf8, is_ascii_graphic, is_control}
use Rattle.std.specs.Fmt.{digits}
use Rattle.std.specs.List.{flat_map, list_all, list_any}

-- ASCII prints the byte
abbrev pub is_printed : ℕ → Bool
is_printed byte = byte == 32 || is_ascii_graphic byte

-- a hexadecimal digit, of a number below 16
abbrev pub hex_digit : ℕ → ℕ
hex_digit n = if nat_lt n 10 then 48 + n else 87 + n

-- a byte of a name: itself, or, where ASCII does not print it, `\x` and two digits
abbrev pub shown_byte : ℕ → List ℕ
shown_byte byte = if is_printed byte then byte ∷ []
    else 92 ∷ 120 ∷ hex_digit (byte / 16) ∷ hex_digit (byte % 16) ∷ []

-- a name without the blanks at its end
abbrev pub trimmed : List ℕ → List ℕ
trimmed [] = []
trimmed (byte ∷ name) = if byte == 32 && length (trimmed name) == 0 then []
    else byte ∷ trimmed name

-- a name is in quotes if it is blank or has a byte that ASCII does not print
abbrev pub is_quoted : List ℕ → Bool
is_quoted text = length text == 0 || not (list_all is_printed text)

-- what stands before and after a name
abbrev pub quotes : Bool → List ℕ
quotes quoted = if quoted then 34 ∷ [] else []

-- `UTIL`, or `"U\x00IL"`: a name without the blanks that fill it up, in quotes where it has to be
unfoldable pub shown_name : List ℕ → List ℕ
shown_name name = let mark = quotes (is_quoted (trimmed name)) in
    mark ++ (flat_map shown_byte (trimmed name) ++ mark)

-- the number of a slot or an entry, of two digits
abbrev pub slot_digits : ℕ → List ℕ
slot_digits n = (48 + n / 10) ∷ (48 + n % 10) ∷ []

-- a character that ends a line or a paragraph: U+2028, U+2029
abbrev pub is_separator : ℕ → Bool
is_separator c = c == 8232 || c == 8233

-- The number is from the first to the second.
abbrev pub is_from : ℕ → ℕ → ℕ → Bool
is_from first last c = nat_le first c && nat_le c last

-- A character that takes no room on a line, or turns the direction of what follows: those that the
-- Unicode Character Database has as Default_Ignorable_Code_Point, and U+FFF9 to U+FFFB, which begin
-- and end an annotation.
abbrev pub is_unseen : ℕ → Bool
is_unseen c =
    -- U+00AD, U+034F, U+061C: soft hyphen, joiner of graphemes, mark of direction
    c == 173 || c == 847 || c == 1564
    -- U+115F to U+1160, U+17B4 to U+17B5, U+180B to U+180F: fillers, vowels, variation selectors
    || is_from 4447 4448 c || is_from 6068 6069 c || is_from 6155 6159 c
    -- U+200B to U+200F, U+202A to U+202E, U+2060 to U+206F: blanks without width, joiners, direction
    || is_from 8203 8207 c || is_from 8234 8238 c || is_from 8288 8303 c
    -- U+3164, U+FE00 to U+FE0F, U+FEFF: filler, variation selectors, byte order mark
    || c == 12644 || is_from 65024 65039 c || c == 65279
    -- U+FFA0, U+FFF0 to U+FFFB: filler, unassigned ones and annotations
    || c == 65440 || is_from 65520 65531 c
    -- U+1BCA0 to U+1BCA3, U+1D173 to U+1D17A: formats of shorthand and of music
    || is_from 113824 113827 c || is_from 119155 119162 c
    -- U+E0000 to U+E0FFF: tags, variation selectors
    || is_from 917504 921599 c

-- a character that is not shown as it is
abbrev pub is_hidden : ℕ → Bool
is_hidden c = is_control c || is_separator c || is_unseen c

-- a hidden character by its number in hexadecimal digits, as `\u{1b}`
abbrev pub control_escape : ℕ → List ℕ
control_escape c = 92 ∷ 117 ∷ 123 ∷ (digits 16 false c ++ 125 ∷ [])

-- the letter that stands for a character after a backslash: `\0`, `\t`, `\n`, `\r`, a quote and a
-- backslash have one
abbrev pub escape_letter : ℕ → Option ℕ
escape_letter c =
    if c == 0 then Some 48 else (if c == 9 then Some 116
    else (if c == 10 then Some 110 else (if c == 13 then Some 114
    else (if c == 34 then Some 34 else (if c == 92 then Some 92 else None)))))

-- any other character: a hidden one by its number, and any other as it is
abbrev pub other_char : ℕ → List ℕ
other_char c = if is_hidden c then control_escape c else encode_utf8 c

-- a character of a path between quotes
unfoldable pub quoted_char : ℕ → List ℕ
quoted_char c = elim (escape_letter c) [
  | Some letter ↦ 92 ∷ letter ∷ []
  | None ↦ other_char c
]

-- a path as it is, or, where it has a hidden character, in quotes with each of these escaped
unfoldable pub shown_path : List ℕ → List ℕ
shown_path path = if list_any is_hidden (chars path)
    then 34 ∷ (flat_map quoted_char (chars path) ++ 34 ∷ []) else path
