-- Lines of text, as map and show print them: names, numbers and reasons.
use Rattle.std.specs.Prelude.{ℕ, ◌+◌, ◌/◌, ◌%◌, ◌&&◌, if◌then◌else◌, List, [], ◌∷◌, ◌++◌, map, nat_le, nat_lt, codes, decimal}
use Rattle.std.specs.List.{flat_map}
use Rattle.ps_words.specs.FaultText.{number_of, name_of}
use Rattle.ps_words.specs.declared.fault.Reason.{Reason}

-- a line, and its end
abbrev pub line : List ℕ → List ℕ
line text = text ++ 10 ∷ []

-- a byte of a name: itself where ASCII prints it, and otherwise a question mark
abbrev pub shown_byte : ℕ → ℕ
shown_byte b = if nat_le 32 b && nat_le b 126 then b else 63

-- a name as it is printed
abbrev pub shown_name : List ℕ → List ℕ
shown_name name = map shown_byte name

-- the number of a slot, of two digits
abbrev pub two_digits : ℕ → List ℕ
two_digits n = (48 + n / 10) ∷ (48 + n % 10) ∷ []

-- a word and a number, each after a blank
abbrev pub field : List ℕ → ℕ → List ℕ
field word n = (32 ∷ []) ++ word ++ (32 ∷ []) ++ decimal n

-- `fault 19 RecordsTruncated`
abbrev pub fault_words : Reason → List ℕ
fault_words why = codes "fault " ++ decimal (number_of why) ++ (32 ∷ []) ++ name_of why

-- one reference, as ` 4`
abbrev pub reference : ℕ → List ℕ
reference place = (32 ∷ []) ++ decimal place

-- all references of a record, as ` at 1 4`
abbrev pub references : List ℕ → List ℕ
references refs = codes " at" ++ flat_map reference refs

-- a digit of a hexadecimal number, from `0` to `9` and from `A` to `F`
abbrev pub hex_digit : ℕ → ℕ
hex_digit n = if nat_lt n 10 then 48 + n else 55 + n

-- a byte in two hexadecimal digits
abbrev pub hex_byte : ℕ → List ℕ
hex_byte b = hex_digit (b / 16) ∷ hex_digit (b % 16) ∷ []
