-- The parts of the text of a report, and where the line of its verdict is.
use Rattle.std.proofs.Common.{◌≡◌, ◌∙◌, ◌++◌, ◌∷◌, ◌==◌, [], ℕ, Bool, List, true, false, append-nil, codes, ap, refl, subst, sym}
use Rattle.std.specs.Prelude.{if◌then◌else◌}
use Rattle.std.specs.List.{flat_map}
use Rattle.std.proofs.lemmas.List.{append_assoc}
use Rattle.ps_explained.specs.FileLines.{AreFileLines}
use Rattle.ps_explained.specs.SlotLines.{indent, lines_of, with_first}
use Rattle.ps_report.specs.FindingLines.{is_mistaken, part_line, part_lines}
use Rattle.ps_report.specs.declared.lines.Part.TheVariants.{Account, Segments}
use Rattle.ps_report.specs.Reports.{Sections, front_of}
use Rattle.ps_report.specs.Verdicts.{Tells, verdict_line}
use Rattle.ps_report.specs.declared.verdict.Verdict.{Verdict}

pub four : (a b c d e : List ℕ) → (a ++ (b ++ (c ++ d))) ++ e ≡ a ++ (b ++ (c ++ (d ++ e)))
four a b c d e =
    append_assoc a (b ++ (c ++ d)) e
    ∙ ap (λ (t : List ℕ). a ++ t) (append_assoc b (c ++ d) e
    ∙ ap (λ (t : List ℕ). b ++ t) (append_assoc c d e))

pub five : (a b c d e f : List ℕ)
    → (a ++ (b ++ (c ++ (d ++ e)))) ++ f ≡ a ++ (b ++ (c ++ (d ++ (e ++ f))))
five a b c d e f = four a b c (d ++ e) f
    ∙ ap (λ (t : List ℕ). a ++ (b ++ (c ++ t))) (append_assoc d e f)

-- the parts, one after another
pub parts_are : (verdict : Verdict) (files segments explanation lists : List ℕ)
    (empty first second told explained whole : List ℕ) → empty ≡ []
    → first ≡ empty ++ files → second ≡ first ++ segments
    → told ≡ second ++ verdict_line verdict → explained ≡ told ++ explanation
    → whole ≡ explained ++ lists
    → whole ≡ files ++ (segments ++ (verdict_line verdict ++ (explanation ++ lists)))
parts_are verdict files segments explanation lists empty first second told explained whole
    none a b c d e =
    let line = verdict_line verdict in
    let one : first ≡ files = a ∙ ap (λ (t : List ℕ). t ++ files) none in
    let two : second ≡ files ++ segments = b ∙ ap (λ (t : List ℕ). t ++ segments) one in
    let three : told ≡ files ++ (segments ++ line) =
    c ∙ (ap (λ (t : List ℕ). t ++ line) two ∙ append_assoc files segments line) in
    let said : explained ≡ files ++ (segments ++ (line ++ explanation)) =
    d ∙ (ap (λ (t : List ℕ). t ++ explanation) three
    ∙ (append_assoc files (segments ++ line) explanation
    ∙ ap (λ (t : List ℕ). files ++ t) (append_assoc segments line explanation))) in
    e ∙ (ap (λ (t : List ℕ). t ++ lists) said ∙ four files segments line explanation lists)

-- lines end with the end of a line
abbrev Ended : List ℕ → Type 0
Ended text = (before : List ℕ) × (text ≡ before ++ codes "\n")

ended_after : (more text : List ℕ) → Ended text → Ended (more ++ text)
ended_after more text is = (
  more ++ is.0,
  ap (λ (t : List ℕ). more ++ t) is.1 ∙ sym (append_assoc more is.0 (codes "\n")),
)

ended_line : (line : List ℕ) → Ended (part_line Segments line)
unfolding part_line
ended_line line = (
  indent (is_mistaken Segments line) ++ line,
  sym (append_assoc (indent (is_mistaken Segments line)) line (codes "\n")),
)

ended_lines : (line : List ℕ) (lines : List (List ℕ))
    → Ended (flat_map (part_line Segments) (line ∷ lines))
ended_lines line [] = let is = ended_line line in
    (is.0, append-nil (part_line Segments line) ∙ is.1)
ended_lines line (next ∷ lines) =
    ended_after (part_line Segments line) (flat_map (part_line Segments) (next ∷ lines))
    (ended_lines next lines)

ended_first : (b : ℕ) (lines : List (List ℕ))
    → Ended (flat_map (part_line Segments) (with_first b lines))
ended_first b [] = ended_lines (b ∷ []) []
ended_first b (line ∷ lines) = ended_lines (b ∷ line) lines

ended_text : (b : ℕ) (text : List ℕ) → Ended (part_lines Segments (b ∷ text))
unfolding part_lines
ended_text b text = by (b == 10)
  where
    by : (t : Bool) → Ended (flat_map (part_line Segments)
        (if t then [] ∷ lines_of text else with_first b (lines_of text)))
    by true = ended_lines [] (lines_of text)
    by false = ended_first b (lines_of text)

no_lines : part_lines Segments [] ≡ []
unfolding part_lines
no_lines = refl

ended_both : (b : ℕ) (text more : List ℕ)
    → Ended (part_lines Segments (b ∷ text) ++ part_lines Segments more)
ended_both b text [] = let is = ended_text b text in (
  is.0,
  ap (λ (t : List ℕ). part_lines Segments (b ∷ text) ++ t) no_lines
      ∙ (append-nil (part_lines Segments (b ∷ text)) ∙ is.1),
)
ended_both b text (c ∷ more) =
    ended_after (part_lines Segments (b ∷ text)) (part_lines Segments (c ∷ more)) (ended_text c more)

-- the lines of the files and of the segments end so
ended_files : (paths : List (List ℕ)) (file : List ℕ) (files : List (List ℕ))
    (text more : List ℕ) → AreFileLines paths 0 (file ∷ files) text
    → Ended (part_lines Segments text ++ part_lines Segments more)
ended_files paths file files text more are =
    subst (λ (t : List ℕ). Ended (part_lines Segments t ++ part_lines Segments more)) (sym are.4)
    (ended_both 102 _ more)

pub told_in : (paths : List (List ℕ)) (file : List ℕ) (files : List (List ℕ))
    (verdict : Verdict) (s : Sections) (found text : List ℕ)
    → AreFileLines paths 0 (file ∷ files) s.files → text ≡ front_of verdict s ++ found
    → Tells text verdict
told_in paths file files verdict s found text are is =
    let first = part_lines Segments s.files in
    let second = part_lines Segments s.segments in
    let line = verdict_line verdict in
    let rest = part_lines Account s.explanation
    ++ (part_lines Account s.lists ++ part_lines Account s.references) in
    let ended = ended_files paths file files s.files s.segments are in
    let joined : (first ++ (second ++ (line ++ rest))) ++ found
    ≡ (first ++ second) ++ (line ++ (rest ++ found)) =
    ap (λ (t : List ℕ). t ++ found) (sym (append_assoc first second (line ++ rest)))
    ∙ (append_assoc (first ++ second) (line ++ rest) found
    ∙ ap (λ (t : List ℕ). (first ++ second) ++ t) (append_assoc line rest found)) in (
      ended.0,
      rest ++ found,
      is ∙ (joined ∙ (ap (λ (t : List ℕ). t ++ (line ++ (rest ++ found))) ended.1
          ∙ append_assoc ended.0 (codes "\n") (line ++ (rest ++ found)))),
    )
