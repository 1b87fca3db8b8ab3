-- The text of the segments of a link, line by line.
use Rattle.std.proofs.Common.{◌≡◌, ◌++◌, ◌∷◌, ◌+◌, ◌-◌, ◌<◌, ◌==◌, [], ℕ, Bool, List, true, false, arith, codes, cond, refl, suc}
use Rattle.std.specs.Prelude.{if◌then◌else◌, decimal}
use Rattle.std.specs.List.{filter, range_with_len}
use Rattle.std.specs.Str.{IsUtf8}
use Rattle.std.proofs.lemmas.List.Folds.{list_all-append}
use Rattle.ps_codefile.specs.Dictionary.{OpenedFile}
use Rattle.ps_codefile.specs.declared.dictionary_layout.TheConstants.{SLOTS}
use Rattle.ps_filetype.specs.Shown.{slot_digits}
use Rattle.ps_check_segments.specs.Seen.{Seen}
use Rattle.ps_explained.specs.OverviewText.{is_without, later_words, more_words, slot_list, slots_without, unused_words, without_line}
use Rattle.ps_explained.specs.SlotLines.{AddsSlotLines, one_line}
use Rattle.ps_explained.proofs.LineOfSegment.{one_two}
use Rattle.ps_lists.proofs.Tests.{all_flat_map}
use Rattle.ps_explained.proofs.OneLine.{one_digits, one_path, ones, tens}
use Rattle.ps_explained.proofs.SlotLines.{adds_no_line}

-- the numbers of the slots from one on that pass
abbrev pub slots_from : (ℕ → Bool) → ℕ → ℕ → List ℕ
slots_from p n i = slot_list (filter p (range_with_len i (n - i)))

first_slot : (i : ℕ) (t : Bool) (rest : List ℕ) → slot_list (cond t (i ∷ rest) rest)
    ≡ slot_list (if t then i ∷ [] else []) ++ slot_list rest
first_slot i true rest = refl
first_slot i false rest = refl

pub slots_left : (p : ℕ → Bool) (n i : ℕ) → i < n
    → slots_from p n i ≡ slot_list (if p i then i ∷ [] else []) ++ slots_from p n (i + 1)
slots_left p n i lt = let left : n - i ≡ suc (n - (i + 1)) = omega arith in
    rw left (first_slot i (p i) (filter p (range_with_len (i + 1) (n - (i + 1)))))

pub slots_begin : (f : OpenedFile) (list : List Seen)
    → slots_from (is_without f list) SLOTS 0 ≡ slot_list (slots_without f list)
unfolding slots_without
slots_begin f list = refl

-- lines that are no segments'
one_more : (n : ℕ) → one_line (more_words n) ≡ true
one_more n = by (n == 0) (n == 1)
  where
    by : (none one : Bool) → one_line (if none then []
        else (if one then codes ", and 1 more library"
        else codes ", and " ++ (decimal n ++ codes " more libraries"))) ≡ true
    by true one = refl
    by false true = refl
    by false false = simp (list_all-append, one_digits 10 n)

one_later : (path : List ℕ) (entry more : ℕ) → IsUtf8 path
    → one_line (later_words path entry more) ≡ true
one_later path entry more text =
    simp (list_all-append, one_path path text, tens entry, ones entry, one_more more)

pub adds_later : (path : List ℕ) (entry more : ℕ) (old new : List ℕ) → IsUtf8 path
    → new ≡ old ++ (later_words path entry more ++ 10 ∷ []) → AddsSlotLines old [] new
adds_later path entry more old new text is =
    adds_no_line old (later_words path entry more) new (one_later path entry more text) refl is

one_unused : (path : List ℕ) (file more : ℕ) → IsUtf8 path
    → one_line (unused_words path file more) ≡ true
one_unused path file more text =
    simp (list_all-append, one_digits 10 file, one_path path text, one_more more)

pub adds_unused : (path : List ℕ) (file more : ℕ) (old new : List ℕ) → IsUtf8 path
    → new ≡ old ++ (unused_words path file more ++ 10 ∷ []) → AddsSlotLines old [] new
adds_unused path file more old new text is =
    adds_no_line old (unused_words path file more) new
    (one_unused path file more text) refl is

pub adds_without : (among old new : List ℕ) → new ≡ old ++ without_line among
    → AddsSlotLines old [] new
adds_without among old new is =
    adds_no_line old (codes "slots without a segment:" ++ slot_list among) new
    (all_flat_map _ (λ (slot : ℕ). 32 ∷ slot_digits slot) one_two among) refl is
