-- The last line of a report: it is no line of a segment, and no warning.
use Rattle.std.proofs.Common.{◌≡◌, ◌∙◌, ◌+◌, ◌++◌, ◌∷◌, ◌==◌, ◌<◌, [], ℕ, Bool, List, Bor, true, false, append-nil, ap, arith, codes, drop, get_or, length, refl, sym}
use Rattle.std.specs.Prelude.{if◌then◌else◌}
use Rattle.std.proofs.lemmas.List.{append_assoc, drop_more}
use Rattle.ps_resolve.specs.Sources.{contents}
use Rattle.ps_explained.proofs.OneLine.{one_append, one_before}
use Rattle.ps_explained.specs.SlotLines.{one_line}
use Rattle.ps_report.specs.Reported.{Said, warning_count}
use Rattle.ps_report.specs.FindingLines.{finding_lines, first_line}
use Rattle.ps_report.specs.LastLine.{asked_paths, asked_words, last_line, line_of_paths}
use Rattle.ps_report.proofs.FindingLines.{AddsFindings, adds_finding_lines, adds_other, lines_then, none_added}

pub no_line : (paths : List ℕ) → (length paths == 0) ≡ true → line_of_paths paths ≡ []
unfolding line_of_paths
no_line paths none = rw none

pub some_line : (paths line : List ℕ) → (length paths == 0) ≡ false → line ≡ first_line paths
    → codes "copy or compile again: " ++ (line ++ codes "see WARNINGS in pslink(1)\n")
    ≡ line_of_paths paths
unfolding line_of_paths
some_line paths line some is = rw (some, is)

-- the line without its end
abbrev words_of : List ℕ → List ℕ
words_of paths = codes "copy or compile again: "
    ++ (first_line paths ++ codes "see WARNINGS in pslink(1)")

one_words : (paths : List ℕ) → one_line (words_of paths) ≡ true
one_words paths =
    one_append (codes "copy or compile again: ")
    (first_line paths ++ codes "see WARNINGS in pslink(1)") refl
    (one_append (first_line paths) (codes "see WARNINGS in pslink(1)") (one_before paths) refl)

line_end : (paths : List ℕ) → codes "copy or compile again: "
    ++ (first_line paths ++ codes "see WARNINGS in pslink(1)\n") ≡ words_of paths ++ 10 ∷ []
line_end paths =
    let end = codes "see WARNINGS in pslink(1)" in
    ap (λ (t : List ℕ). codes "copy or compile again: " ++ t)
    (sym (append_assoc (first_line paths) end (10 ∷ [])))
    ∙ sym (append_assoc (codes "copy or compile again: ") (first_line paths ++ end) (10 ∷ []))

adds_words : (old paths : List ℕ) → AddsFindings old 0 (old ++ (words_of paths ++ 10 ∷ []))
adds_words old paths = adds_other old (words_of paths) _ (one_words paths) refl refl refl

nothing_added : (old : List ℕ) → AddsFindings old 0 (old ++ [])
nothing_added old = rw (append-nil old) (none_added old, ([], sym (append-nil old), λ rest. refl))

adds_line_of : (old paths : List ℕ) → AddsFindings old 0 (old ++ line_of_paths paths)
unfolding line_of_paths
adds_line_of old paths = by (length paths == 0)
  where
    by : (t : Bool) → AddsFindings old 0 (old ++ (if t then [] else codes "copy or compile again: "
        ++ (first_line paths ++ codes "see WARNINGS in pslink(1)\n")))
    by true = nothing_added old
    by false = rw (line_end paths) (adds_words old paths)

none_more : (n : ℕ) → n + 0 ≡ n
none_more n = omega arith

-- the lines of findings, and the last one
pub adds_last_lines : (paths : List (List ℕ)) (old : List ℕ) (found : List Said)
    → AddsFindings old (warning_count found) (old ++ (finding_lines found ++ last_line paths found))
adds_last_lines paths old found =
    let here = old ++ finding_lines found in
    let last = last_line paths found in
    rw (append_assoc old (finding_lines found) last, none_more (warning_count found)) at
    (lines_then old here (here ++ last) (warning_count found) 0 (adds_finding_lines old found)
    (adds_line_of here (asked_paths found paths)))

-- the paths from i on are path i and those behind it
pub paths_left : (found : List Said) (paths : List (Bor (List ℕ))) (i : ℕ)
    (none : Bor (List ℕ)) (before : List ℕ) → i < length paths
    → before ++ asked_paths found (contents (drop i paths))
    ≡ (before ++ asked_words found (get_or paths i none).now)
    ++ asked_paths found (contents (drop (i + 1) paths))
paths_left found paths i none before lt =
    ap (λ (left : List (Bor (List ℕ))). before ++ asked_paths found (contents left))
    (drop_more paths i none lt)
    ∙ sym (append_assoc before (asked_words found (get_or paths i none).now)
    (asked_paths found (contents (drop (i + 1) paths))))
