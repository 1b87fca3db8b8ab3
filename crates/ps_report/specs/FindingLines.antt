-- The lines of a report that begin with `warning: `: those of its warnings, and no others. No line of
-- an explanation or of a list begins as that of the verdict, of a finding or of a segment.
use Rattle.std.specs.Prelude.{◌≡◌, ℕ, ◌+◌, ◌==◌, ◌||◌, Bool, List, ◌∷◌, [], ◌++◌, codes, length}
use Rattle.std.specs.List.{before_first, filter, flat_map, starts_with}
use Rattle.ps_explained.specs.SlotLines.{indent, is_slot_line, lines_of}
use Rattle.ps_warnings.specs.Weights.{weight_of, weight_word}
use Rattle.ps_report.specs.Reported.{Said}
use Rattle.ps_report.specs.declared.lines.Part.{Part}
use Rattle.ps_report.specs.declared.lines.Part.TheVariants.{Account, Segments}

-- a line begins with `warning: `
abbrev pub is_warning_line : List ℕ → Bool
is_warning_line line = starts_with (λ a b. a == b) line (codes "warning: ")

-- the lines of a text that begin with `warning: `, in order
unfoldable pub warning_lines : List ℕ → List (List ℕ)
warning_lines text = filter is_warning_line (lines_of text)

-- how many lines of a text begin with `warning: `
abbrev pub warnings_in : List ℕ → ℕ
warnings_in text = length (warning_lines text)

-- the new text is the old one with more, of which so many lines begin with `warning: `, whatever
-- follows it
abbrev pub AddsWarnings : List ℕ → ℕ → List ℕ → Type 0
AddsWarnings old n new =
    (more : List ℕ) × (new ≡ old ++ more)
    × ((rest : List ℕ) → warnings_in (more ++ rest) ≡ n + warnings_in rest)

-- a line begins with this word
abbrev pub begins_with : List ℕ → List ℕ → Bool
begins_with word line = starts_with (λ a b. a == b) line word

-- a line begins as that of the verdict
abbrev pub is_verdict_line : List ℕ → Bool
is_verdict_line line = begins_with (codes "links: ") line || begins_with (codes "pslink: ") line

-- a line begins as that of a finding
abbrev pub is_remark_line : List ℕ → Bool
is_remark_line line = begins_with (codes "harmless: ") line || begins_with (codes "note: ") line

abbrev pub is_finding_line : List ℕ → Bool
is_finding_line line = is_warning_line line || is_remark_line line

-- a line begins as that of the verdict or of a finding
abbrev pub is_told_line : List ℕ → Bool
is_told_line line = is_verdict_line line || is_finding_line line

-- a line of a part of the report begins as another line does: among the segments each begins as
-- that of a segment
abbrev pub is_mistaken : Part → List ℕ → Bool
is_mistaken Segments line = is_told_line line
is_mistaken Account line = is_told_line line || is_slot_line line

-- a line of a part, and its end: one that would be mistaken for another is indented
unfoldable pub part_line : Part → List ℕ → List ℕ
part_line part line = indent (is_mistaken part line) ++ (line ++ 10 ∷ [])

-- the lines of a part
unfoldable pub part_lines : Part → List ℕ → List ℕ
part_lines part text = flat_map (part_line part) (lines_of text)

-- a text up to its first line end
abbrev pub first_line : List ℕ → List ℕ
first_line text = before_first (λ byte. byte == 10) text

-- where something was found and what it is, within a line
abbrev pub finding_words : Said → List ℕ
finding_words f = first_line f.place ++ codes ": " ++ first_line f.words

-- the line of a finding, and its end, which begins with the word for its weight:
-- `note: UTIL.CODE, segment UTIL: each byte of its code is E5`
unfoldable pub finding_line : Said → List ℕ
finding_line f = weight_word (weight_of f.at.finding) ++ codes ": "
    ++ finding_words f ++ codes "\n"

-- the findings, one by one: a line for each, in their order, and nothing else
unfoldable pub finding_lines : List Said → List ℕ
finding_lines found = flat_map finding_line found
