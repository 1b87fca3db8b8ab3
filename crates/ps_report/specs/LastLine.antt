-- The last line of a report that has warnings or notes: which files are to be copied or compiled
-- again, and which page says more.
use Rattle.std.specs.Prelude.{ℕ, ◌==◌, ◌&&◌, not, if◌then◌else◌, Bool, true, false, List, [], ◌++◌, codes, length}
use Rattle.std.specs.List.{flat_map, list_any}
use Rattle.std.specs.Str.{bytes_eq}
use Rattle.ps_filetype.specs.Shown.{shown_path}
use Rattle.ps_warnings.specs.Weights.{weight_of}
use Rattle.ps_warnings.specs.declared.finding.DictionaryFinding.TheVariants as dictionary
use Rattle.ps_warnings.specs.declared.finding.Finding.{Finding}
use Rattle.ps_warnings.specs.declared.finding.Finding.TheVariants as which
use Rattle.ps_warnings.specs.declared.finding.FindingAt.{FindingAt}
use Rattle.ps_warnings.specs.declared.finding.OperandFinding.TheVariants as operand
use Rattle.ps_warnings.specs.declared.weight.Weight.{Weight}
use Rattle.ps_warnings.specs.declared.weight.Weight.TheVariants.{Warning, Harmless, Note}
use Rattle.ps_report.specs.FindingLines.{first_line}
use Rattle.ps_report.specs.Reported.{Said}

-- a warning, or a note: something is to be done
abbrev pub asks : Weight → Bool
asks Warning = true
asks Harmless = false
asks Note = true

-- what is to be changed is the linked file, and no file that is linked
abbrev pub is_of_linked_file : Finding → Bool
is_of_linked_file (which.Dictionary (dictionary.LeftOutWord place high low first second)) = true
is_of_linked_file other = false

-- something is to be done about the file at this path, by a finding
abbrev pub asks_for : List ℕ → FindingAt → Bool
asks_for path f = asks (weight_of f.finding)
    && (not (is_of_linked_file f.finding) && bytes_eq f.place.path.now path)

-- a compiler may count references otherwise, and it is that of the file at this path: the file need
-- not be copied or compiled again
abbrev pub is_other_count : Finding → Bool
is_other_count (which.Operand (operand.OtherCount references operands counting counted)) = true
is_other_count other = false

abbrev pub counts_otherwise : List ℕ → FindingAt → Bool
counts_otherwise path f = is_other_count f.finding && bytes_eq f.place.path.now path

-- `library.code; `, of a file for which a finding asks, unless its compiler may count otherwise
unfoldable pub asked_words : List Said → List ℕ → List ℕ
asked_words found path = if not (list_any (λ f. counts_otherwise path f.at) found)
    && list_any (λ f. asks_for path f.at) found
    then shown_path path ++ codes "; " else []

-- the files for which findings ask, in the order in which they are given
abbrev pub asked_paths : List Said → List (List ℕ) → List ℕ
asked_paths found paths = flat_map (asked_words found) paths

-- `copy or compile again: library.code; see WARNINGS in pslink(1)`, and its end; nothing where there
-- is no path
unfoldable pub line_of_paths : List ℕ → List ℕ
line_of_paths paths = if length paths == 0 then []
    else codes "copy or compile again: "
    ++ (first_line paths ++ codes "see WARNINGS in pslink(1)\n")

-- the last line of a report on files at these paths
abbrev pub last_line : List (List ℕ) → List Said → List ℕ
last_line paths found = line_of_paths (asked_paths found paths)
