-- The lines of a text that begin with `slot `.
use Rattle.std.specs.Prelude.{◌≡◌, ℕ, ◌==◌, not, if◌then◌else◌, Bool, List, [], ◌∷◌, ◌++◌, codes}
use Rattle.std.specs.List.{filter, list_all, starts_with}

-- a byte before the first of these lines
abbrev pub with_first : ℕ → List (List ℕ) → List (List ℕ)
with_first byte [] = (byte ∷ []) ∷ []
with_first byte (line ∷ lines) = (byte ∷ line) ∷ lines

-- the lines of a text, each without the byte 10 that ends it
abbrev pub lines_of : List ℕ → List (List ℕ)
lines_of [] = []
lines_of (byte ∷ text) = if byte == 10 then [] ∷ lines_of text
    else with_first byte (lines_of text)

-- a line begins with `slot `
abbrev pub is_slot_line : List ℕ → Bool
is_slot_line line = starts_with (λ a b. a == b) line (codes "slot ")

-- the lines of a text that begin with `slot `, in order
unfoldable pub slot_lines : List ℕ → List (List ℕ)
slot_lines text = filter is_slot_line (lines_of text)

-- the new text is the old one with more, which has these lines that begin with `slot `, whatever
-- follows it
abbrev pub AddsSlotLines : List ℕ → List (List ℕ) → List ℕ → Type 0
AddsSlotLines old lines new =
    (more : List ℕ) × (new ≡ old ++ more)
    × ((rest : List ℕ) → slot_lines (more ++ rest) ≡ lines ++ slot_lines rest)

-- a text has no byte 10, and so is within a line
abbrev pub one_line : List ℕ → Bool
one_line text = list_all (λ byte. not (byte == 10)) text

-- what goes before a line that would begin as it must not
abbrev pub indent : Bool → List ℕ
indent begins = if begins then codes "  " else []
