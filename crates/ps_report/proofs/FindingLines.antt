-- The lines of a report to which a line is added that is a warning's, or none's.
use Rattle.std.proofs.Common.{◌≡◌, ◌∙◌, ◌+◌, ◌++◌, ◌∷◌, ◌==◌, [], ℕ, List, Bool, true, false, not, cond, append-nil, length, ◌<◌, Bor, refl, sym, subst, ap, arith, get_or, codes, inl, inr}
use Rattle.std.specs.Prelude.{Option, Some, None, IfSome}
use Rattle.std.specs.List.{after_first, before_first, filter, flat_map, list_all, position_or_len}
use Rattle.std.proofs.lemmas.Bool.{and_parts, cases_Bool, not-true, or_parts}
use Rattle.std.proofs.lemmas.Bool.Decides.{nat_tests}
use Rattle.std.proofs.lemmas.List.{append_assoc}
use Rattle.std.proofs.lemmas.List.Sums.{passes_at_first, split_at_first}
use Rattle.ps_explained.specs.SlotLines.{AddsSlotLines, indent, is_slot_line, lines_of, one_line, slot_lines, with_first}
use Rattle.ps_explained.proofs.OneLine.{Splits, one_append, one_before}
use Rattle.ps_explained.proofs.SlotLines.{adds_line, adds_no_line, adds_then, adds_then_none, line_ends}
use Rattle.ps_warnings.specs.Weights.{is_certain_weight, weight_of, weight_word}
use Rattle.ps_warnings.specs.declared.weight.Weight.{Weight}
use Rattle.ps_warnings.specs.declared.weight.Weight.TheVariants.{Warning, Harmless, Note}
use Rattle.ps_report.specs.Reported.{Said, is_warned, warning_count}
use Rattle.ps_report.specs.FindingLines.{AddsWarnings, finding_line, finding_lines, finding_words, first_line, is_mistaken, is_told_line, is_verdict_line, is_warning_line, part_line, part_lines, warning_lines, warnings_in}
use Rattle.ps_report.specs.declared.lines.Part.{Part}
use Rattle.ps_report.specs.declared.lines.Part.TheVariants.{Account, Segments}

-- a last line that has no end
pub alone : (b : ℕ) (line : List ℕ) → one_line (b ∷ line) ≡ true
    → lines_of (b ∷ line) ≡ (b ∷ line) ∷ []
alone b [] one = rw (not-true (b == 10) (and_parts (not (b == 10)) true one).0)
alone b (c ∷ line) one = let both = and_parts (not (b == 10)) (one_line (c ∷ line)) one in
    rw (not-true (b == 10) both.0, alone c line both.1)

no_more : (n : ℕ) → n ≡ 0 + n
no_more n = omega arith

warnings_after : (line rest : List ℕ) → one_line line ≡ true
    → warnings_in ((line ++ 10 ∷ []) ++ rest)
    ≡ length (cond (is_warning_line line) (line ∷ warning_lines rest) (warning_lines rest))
unfolding warning_lines
warnings_after line rest one =
    ap (λ (text : List ℕ). length (filter is_warning_line (lines_of text)))
    (append_assoc line (10 ∷ []) rest)
    ∙ ap (λ (lines : List (List ℕ)). length (filter is_warning_line lines))
    (line_ends line rest one)

-- a line that begins with `warning: `, and one that does not
pub adds_warning : (old line new : List ℕ) → one_line line ≡ true
    → is_warning_line line ≡ true → new ≡ old ++ (line ++ 10 ∷ [])
    → AddsWarnings old 1 new
adds_warning old line new one begins is = (
  line ++ 10 ∷ [],
  is,
  λ rest. warnings_after line rest one ∙ rw begins (omega arith),
)

pub adds_no_warning : (old line new : List ℕ) → one_line line ≡ true
    → is_warning_line line ≡ false → new ≡ old ++ (line ++ 10 ∷ [])
    → AddsWarnings old 0 new
adds_no_warning old line new one begins is = (
  line ++ 10 ∷ [],
  is,
  λ rest. warnings_after line rest one ∙ rw begins (no_more (warnings_in rest)),
)

pub none_added : (text : List ℕ) → AddsWarnings text 0 text
none_added text = ([], sym (append-nil text), λ rest. no_more (warnings_in rest))

pub added_then : (a b c : List ℕ) (n m : ℕ) → AddsWarnings a n b → AddsWarnings b m c
    → AddsWarnings a (n + m) c
added_then a b c n m h k = (
  h.0 ++ k.0,
  k.1 ∙ (ap (λ (t : List ℕ). t ++ k.0) h.1 ∙ append_assoc a h.0 k.0),
  λ rest.
      ap warnings_in (append_assoc h.0 k.0 rest)
      ∙ (h.2 (k.0 ++ rest) ∙ (ap (λ (t : ℕ). n + t) (k.2 rest) ∙ omega arith)),
)

-- a whole text
pub warnings_are : (text : List ℕ) (n : ℕ) → AddsWarnings [] n text → warnings_in text ≡ n
unfolding warning_lines
warnings_are text n h = ap warnings_in (h.1 ∙ sym (append-nil h.0)) ∙ (h.2 [] ∙ omega arith)

-- a text to which so many warnings are added
pub counted : (text before : List ℕ) (n : ℕ) → AddsWarnings [] 0 before
    → AddsWarnings before n text → warnings_in text ≡ n
counted text before n none some =
    warnings_are text (0 + n) (added_then [] before text 0 n none some) ∙ omega arith

-- a line of a part
part_is : (part : Part) (line : List ℕ) (t : Bool) → is_mistaken part line ≡ t
    → part_line part line ≡ indent t ++ (line ++ 10 ∷ [])
unfolding part_line
part_is part line t e = rw e

-- one that begins as that of a warning would be mistaken
told_no_warning : (line : List ℕ) → is_told_line line ≡ false → is_warning_line line ≡ false
told_no_warning line e =
    (or_parts (is_warning_line line) _ (or_parts (is_verdict_line line) _ e).1).0

no_warning : (part : Part) (line : List ℕ) → is_mistaken part line ≡ false
    → is_warning_line line ≡ false
no_warning Segments line e = told_no_warning line e
no_warning Account line e = told_no_warning line (or_parts (is_told_line line) _ e).0

pub adds_part_line : (part : Part) (old line new : List ℕ) → one_line line ≡ true
    → new ≡ old ++ part_line part line → AddsWarnings old 0 new
adds_part_line part old line new one is = by (is_mistaken part line) refl
  where
    by : (t : Bool) → is_mistaken part line ≡ t → AddsWarnings old 0 new
    by true e = adds_no_warning old (32 ∷ 32 ∷ line) new one refl
        (is ∙ ap (λ (l : List ℕ). old ++ l) (part_is part line true e))
    by false e = adds_no_warning old line new one (no_warning part line e)
        (is ∙ ap (λ (l : List ℕ). old ++ l) (part_is part line false e))

-- texts of such lines
ends_first : (b : ℕ) (lines : List (List ℕ)) → (b == 10) ≡ false
    → list_all one_line lines ≡ true → list_all one_line (with_first b lines) ≡ true
ends_first b [] other h = rw other
ends_first b (line ∷ lines) other h = rw other h

one_each : (text : List ℕ) → list_all one_line (lines_of text) ≡ true
one_each [] = refl
one_each (b ∷ text) = elim (cases_Bool (b == 10)) [
  | inl e ↦ rw e (one_each text)
  | inr e ↦ rw e (ends_first b (lines_of text) e (one_each text))
]

adds_each : (part : Part) (old : List ℕ) (lines : List (List ℕ))
    → list_all one_line lines ≡ true
    → AddsWarnings old 0 (old ++ flat_map (part_line part) lines)
adds_each part old [] h = ([], refl, λ rest. no_more (warnings_in rest))
adds_each part old (line ∷ lines) h =
    let here : List ℕ = old ++ part_line part line in
    let both = and_parts (one_line line) (list_all one_line lines) h in
    rw (append_assoc old (part_line part line) (flat_map (part_line part) lines)) at
    (added_then old here (here ++ flat_map (part_line part) lines) 0 0
    (adds_part_line part old line here both.0 refl) (adds_each part here lines both.1))

pub adds_part_lines : (part : Part) (old lines new : List ℕ)
    → new ≡ old ++ part_lines part lines → AddsWarnings old 0 new
unfolding part_lines
adds_part_lines part old lines new is = rw is (adds_each part old (lines_of lines) (one_each lines))

-- the line of a segment is as it was
not_both : (line : List ℕ) → is_slot_line line ≡ true → is_told_line line ≡ false
not_both [] h = refl
not_both (b ∷ line) h =
    let is : b ≡ 115 = grind (arith, nat_tests, (and_parts (115 == b) _ h).0) in rw is refl

adds_slot : (old line new : List ℕ) → one_line line ≡ true
    → new ≡ old ++ part_line Segments line
    → AddsSlotLines old (cond (is_slot_line line) (line ∷ []) []) new
adds_slot old line new one is = by (is_slot_line line) refl (is_told_line line) refl
  where
    by : (s : Bool) → is_slot_line line ≡ s → (w : Bool) → is_told_line line ≡ w
        → AddsSlotLines old (cond s (line ∷ []) []) new
    by true e true f = let no = sym f ∙ not_both line e in cc
    by true e false f = adds_line old line new one e
        (is ∙ ap (λ (l : List ℕ). old ++ l) (part_is Segments line false f))
    by false e true f = adds_no_line old (32 ∷ 32 ∷ line) new one refl
        (is ∙ ap (λ (l : List ℕ). old ++ l) (part_is Segments line true f))
    by false e false f = adds_no_line old line new one e
        (is ∙ ap (λ (l : List ℕ). old ++ l) (part_is Segments line false f))

slots_of : (line : List ℕ) (lines : List (List ℕ)) (s : Bool)
    → cond s (line ∷ []) [] ++ lines ≡ cond s (line ∷ lines) lines
slots_of line lines true = refl
slots_of line lines false = refl

adds_slots : (old : List ℕ) (lines : List (List ℕ)) → list_all one_line lines ≡ true
    → AddsSlotLines old (filter is_slot_line lines) (old ++ flat_map (part_line Segments) lines)
adds_slots old [] h = ([], refl, λ rest. refl)
adds_slots old (line ∷ lines) h =
    let here : List ℕ = old ++ part_line Segments line in
    let both = and_parts (one_line line) (list_all one_line lines) h in
    rw (
      slots_of line (filter is_slot_line lines) (is_slot_line line),
      append_assoc old (part_line Segments line) (flat_map (part_line Segments) lines),
    ) at
    (adds_then old here (here ++ flat_map (part_line Segments) lines)
    (cond (is_slot_line line) (line ∷ []) []) (filter is_slot_line lines)
    (adds_slot old line here both.0 refl) (adds_slots here lines both.1))

pub keeps_slot_lines : (old lines new : List ℕ) → new ≡ old ++ part_lines Segments lines
    → AddsSlotLines old (slot_lines lines) new
unfolding part_lines slot_lines
keeps_slot_lines old lines new is = rw is (adds_slots old (lines_of lines) (one_each lines))

-- no line of an account is as that of a segment
adds_account : (old line new : List ℕ) → one_line line ≡ true
    → new ≡ old ++ part_line Account line → AddsSlotLines old [] new
adds_account old line new one is = by (is_mistaken Account line) refl
  where
    by : (t : Bool) → is_mistaken Account line ≡ t → AddsSlotLines old [] new
    by true e = adds_no_line old (32 ∷ 32 ∷ line) new one refl
        (is ∙ ap (λ (l : List ℕ). old ++ l) (part_is Account line true e))
    by false e = adds_no_line old line new one
        (or_parts (is_told_line line) (is_slot_line line) e).1
        (is ∙ ap (λ (l : List ℕ). old ++ l) (part_is Account line false e))

adds_accounts : (old : List ℕ) (lines : List (List ℕ)) → list_all one_line lines ≡ true
    → AddsSlotLines old [] (old ++ flat_map (part_line Account) lines)
adds_accounts old [] h = ([], refl, λ rest. refl)
adds_accounts old (line ∷ lines) h =
    let here : List ℕ = old ++ part_line Account line in
    let both = and_parts (one_line line) (list_all one_line lines) h in
    rw (append_assoc old (part_line Account line) (flat_map (part_line Account) lines)) at
    (adds_then_none old here (here ++ flat_map (part_line Account) lines) []
    (adds_account old line here both.0 refl) (adds_accounts here lines both.1))

pub adds_no_slot : (old lines new : List ℕ) → new ≡ old ++ part_lines Account lines
    → AddsSlotLines old [] new
unfolding part_lines
adds_no_slot old lines new is = rw is (adds_accounts old (lines_of lines) (one_each lines))

-- the line of a finding
one_word : (w : Weight) → one_line (weight_word w) ≡ true
one_word Warning = refl
one_word Harmless = refl
one_word Note = refl

one_words : (f : Said) → one_line (finding_words f) ≡ true
one_words f = one_append (first_line f.place ++ codes ": ") (first_line f.words)
    (one_append (first_line f.place) (codes ": ") (one_before f.place) refl) (one_before f.words)

abbrev text_with : Weight → Said → List ℕ
text_with w f = weight_word w ++ codes ": " ++ finding_words f

one_text : (w : Weight) (f : Said) → one_line (text_with w f) ≡ true
one_text w f =
    one_append (weight_word w ++ codes ": ") (finding_words f)
    (one_append (weight_word w) (codes ": ") (one_word w) refl) (one_words f)

line_is : (f : Said) → finding_line f ≡ text_with (weight_of f.at.finding) f ++ 10 ∷ []
unfolding finding_line
line_is f = refl

-- so many warnings, and no line of a segment
abbrev pub AddsFindings : List ℕ → ℕ → List ℕ → Type 0
AddsFindings old n new = AddsWarnings old n new × AddsSlotLines old [] new

-- how many warnings a finding of this weight is
abbrev count_of : Weight → ℕ
count_of Warning = 1
count_of Harmless = 0
count_of Note = 0

-- a line that begins neither as that of a warning nor as that of a segment
pub adds_other : (old line new : List ℕ) → one_line line ≡ true → is_warning_line line ≡ false
    → is_slot_line line ≡ false → new ≡ old ++ (line ++ 10 ∷ []) → AddsFindings old 0 new
adds_other old line new one w s is =
    (adds_no_warning old line new one w is, adds_no_line old line new one s is)

adds_text : (old : List ℕ) (w : Weight) (f : Said)
    → AddsFindings old (count_of w) (old ++ (text_with w f ++ 10 ∷ []))
adds_text old Warning f = let line = text_with Warning f in (
  adds_warning old line (old ++ (line ++ 10 ∷ [])) (one_text Warning f) refl refl,
  adds_no_line old line (old ++ (line ++ 10 ∷ [])) (one_text Warning f) refl refl,
)
adds_text old Harmless f = adds_other old (text_with Harmless f) _ (one_text Harmless f) refl refl
    refl
adds_text old Note f = adds_other old (text_with Note f) _ (one_text Note f) refl refl refl

adds_finding_line : (old : List ℕ) (f : Said)
    → AddsFindings old (count_of (weight_of f.at.finding)) (old ++ finding_line f)
adds_finding_line old f = rw (line_is f) (adds_text old (weight_of f.at.finding) f)

-- how many warnings there are with one more finding
counted_with : (f : Said) (fs : List Said) (w : Weight)
    → length (cond (is_certain_weight w) (f ∷ filter is_warned fs) (filter is_warned fs))
    ≡ count_of w + length (filter is_warned fs)
counted_with f fs Warning = omega arith
counted_with f fs Harmless = no_more (length (filter is_warned fs))
counted_with f fs Note = no_more (length (filter is_warned fs))

count_more : (f : Said) (fs : List Said)
    → count_of (weight_of f.at.finding) + warning_count fs ≡ warning_count (f ∷ fs)
unfolding warning_count
count_more f fs = sym (counted_with f fs (weight_of f.at.finding))

no_finding : warning_count [] ≡ 0
unfolding warning_count
no_finding = refl

-- the lines of many
pub lines_then : (a b c : List ℕ) (n m : ℕ) → AddsFindings a n b → AddsFindings b m c
    → AddsFindings a (n + m) c
lines_then a b c n m h k =
    (added_then a b c n m h.0 k.0, adds_then_none a b c [] h.1 k.1)

adds_lines : (old : List ℕ) (fs : List Said)
    → AddsFindings old (warning_count fs) (old ++ flat_map finding_line fs)
adds_lines old [] = rw no_finding
    (([], refl, λ rest. no_more (warnings_in rest)), ([], refl, λ rest. refl))
adds_lines old (f ∷ fs) =
    let here = old ++ finding_line f in
    rw (count_more f fs, append_assoc old (finding_line f) (flat_map finding_line fs)) at
    (lines_then old here (here ++ flat_map finding_line fs) (count_of (weight_of f.at.finding))
    (warning_count fs) (adds_finding_line old f) (adds_lines here fs))

pub adds_finding_lines : (old : List ℕ) (fs : List Said)
    → AddsFindings old (warning_count fs) (old ++ finding_lines fs)
unfolding finding_lines
adds_finding_lines old fs = adds_lines old fs

-- lines of a text that is cut at its first byte 10, and of one that has none
pub part_lines_cut : (part : Part) (line rest : List ℕ) → one_line line ≡ true
    → part_lines part (line ++ 10 ∷ rest) ≡ part_line part line ++ part_lines part rest
unfolding part_lines
part_lines_cut part line rest one = ap (flat_map (part_line part)) (line_ends line rest one)

pub part_lines_none : (part : Part) → part_lines part [] ≡ []
unfolding part_lines
part_lines_none part = refl

pub part_lines_alone : (part : Part) (line : List ℕ) → 0 < length line → one_line line ≡ true
    → part_lines part line ≡ part_line part line
unfolding part_lines
part_lines_alone part [] some one = absurd (omega arith)
part_lines_alone part (b ∷ line) some one =
    ap (flat_map (part_line part)) (alone b line one) ∙ append-nil (part_line part (b ∷ line))

-- nothing is left
pub lines_done : (part : Part) (left text all : List ℕ) → length left ≡ 0
    → text ++ part_lines part left ≡ all → text ≡ all
lines_done part [] text all none h =
    sym (append-nil text) ∙ (ap (λ (t : List ℕ). text ++ t) (sym (part_lines_none part)) ∙ h)
lines_done part (b ∷ left) text all none h = absurd (omega arith)

-- what a text is that was split at its first byte 10
first_is : (bs : List ℕ) → position_or_len (λ b. b == 10) bs < length bs
    → bs ≡ before_first (λ b. b == 10) bs ++ 10 ∷ after_first (λ b. b == 10) bs
first_is bs within =
    let p : ℕ → Bool = λ b. b == 10 in
    let found : get_or bs (position_or_len p bs) 0 ≡ 10 =
    grind (arith, nat_tests, passes_at_first p bs 0 within) in
    split_at_first p bs 0 within
    ∙ ap (λ (b : ℕ). before_first p bs ++ b ∷ after_first p bs) found

pub cut_at : (bs : List ℕ) (r : Option (Bor (List ℕ) × Bor (List ℕ)))
    (x : Bor (List ℕ) × Bor (List ℕ)) → Splits bs r → r ≡ Some x
    → bs ≡ x.0.now ++ 10 ∷ x.1.now
cut_at bs None x m e = cc
cut_at bs (Some y) x m e =
    let cut : bs ≡ y.0.now ++ 10 ∷ y.1.now = first_is bs m.0
    ∙ (ap (λ (t : List ℕ). t ++ 10 ∷ after_first (λ b. b == 10) bs) (sym m.1)
    ∙ ap (λ (t : List ℕ). y.0.now ++ 10 ∷ t) (sym m.2)) in
    subst (λ (o : Option (Bor (List ℕ) × Bor (List ℕ))). IfSome o
    (λ z. bs ≡ z.0.now ++ 10 ∷ z.1.now)) e cut
