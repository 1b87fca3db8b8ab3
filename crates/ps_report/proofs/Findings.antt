-- Findings with their words, one after another, and how many of them are warnings.
use Rattle.std.proofs.Common.{◌≡◌, ◌∙◌, ◌+◌, ◌<◌, ◌++◌, ◌∷◌, [], ℕ, Bool, List, ap, arith, ◌≤◌, false, get_or, inl, inr, length, map, refl, sym, take, true}
use mir.Val.{bool_byte}
use Rattle.std.proofs.lemmas.List.{length-append, map-append, take_more}
use Rattle.std.proofs.lemmas.List.Elements.{filter-append}
use Rattle.std.proofs.lemmas.Bool.{cases_Bool}
use Rattle.std.specs.List.{filter}
use Rattle.ps_warnings.specs.Weights.{is_certain}
use Rattle.ps_warnings.specs.declared.finding.DictionaryFinding.TheVariants as dictionary
use Rattle.ps_warnings.specs.declared.finding.FileFinding.TheVariants as file
use Rattle.ps_warnings.specs.declared.finding.Finding.{Finding}
use Rattle.ps_warnings.specs.declared.finding.Finding.TheVariants as which
use Rattle.ps_warnings.specs.Found.{about_link_in, is_about_link, warnings_among}
use Rattle.ps_report.specs.Reported.{Said, findings_in, is_warned, said, warning_count}
use Rattle.ps_report.specs.declared.finding.SaidFinding.{SaidFinding}

-- a warning is about the link
certain_about : (f : Finding) → is_certain f ≡ true → is_about_link f ≡ true
certain_about (which.Entry e) h = refl
certain_about (which.Record r) h = refl
certain_about (which.Link l) h = refl
certain_about (which.File (file.NoCodeFile t)) h = cc
certain_about (which.File (file.Padded n)) h = cc
certain_about (which.File (file.Doubled a b)) h = cc
certain_about (which.File (file.Converted e)) h = cc
certain_about (which.File file.SevenBits) h = cc
certain_about (which.Dictionary (dictionary.DeadTail a b c)) h = cc
certain_about (which.Dictionary (dictionary.IntrinsicKind a b)) h = cc
certain_about (which.Dictionary dictionary.IntrinsicSet) h = cc
certain_about (which.Dictionary (dictionary.LeftOutWord a b c d e)) h = cc
certain_about (which.Name n) h = cc
certain_about (which.Code c) h = cc
certain_about (which.Procedure p) h = cc
certain_about (which.Operand o) h = cc

-- so many of these findings are warnings as of those about the link
pub warned_about : (fs : List Said)
    → warning_count fs ≡ length (warnings_among (about_link_in (findings_in fs)))
unfolding warning_count warnings_among about_link_in
warned_about [] = refl
warned_about (f ∷ fs) = let more = warned_about fs in elim (cases_Bool (is_certain f.at.finding)) [
  | inl c ↦ rw (certain_about f.at.finding c, c) (omega (arith, more))
  | inr c ↦ elim (cases_Bool (is_about_link f.at.finding)) [
    | inl a ↦ rw (a, c) more
    | inr a ↦ rw (a, c) more
  ]
]

-- how many warnings one finding is
pub byte_few : (b : Bool) → bool_byte b ≤ 1
byte_few true = omega arith
byte_few false = omega arith

alone : (x : Said) (b : Bool) → is_warned x ≡ b
    → length (filter is_warned (x ∷ [])) ≡ bool_byte b
alone x true h = rw h
alone x false h = rw h

counted_more : (xs : List Said) (x : Said)
    → length (filter is_warned (xs ++ x ∷ []))
    ≡ length (filter is_warned xs) + bool_byte (is_warned x)
counted_more xs x = ap length (filter-append is_warned xs (x ∷ []))
    ∙ (length-append (filter is_warned xs) (filter is_warned (x ∷ []))
    ∙ ap (λ (n : ℕ). length (filter is_warned xs) + n) (alone x (is_warned x) refl))

-- how many of the findings are warnings, up to one more
pub counted_after : {A : Type 0} (fs : List (SaidFinding A)) (i : ℕ) (f : SaidFinding A)
    → i < length fs → f ≡ get_or fs i f
    → warning_count (map said (take (i + 1) fs))
    ≡ warning_count (map said (take i fs)) + bool_byte (is_certain f.at.finding)
unfolding warning_count
counted_after {A = A} fs i f within is =
    let cut : take (i + 1) fs ≡ take i fs ++ f ∷ [] = take_more fs i f within
    ∙ ap (λ (x : SaidFinding A). take i fs ++ x ∷ []) (sym is) in
    ap (λ (l : List (SaidFinding A)). length (filter is_warned (map said l))) cut
    ∙ (ap (λ (l : List Said). length (filter is_warned l)) (map-append said (take i fs) (f ∷ []))
    ∙ counted_more (map said (take i fs)) (said f))
