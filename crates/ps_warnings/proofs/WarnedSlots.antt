-- What the definitions of the warnings compute of slots and of names is what the pages say.
use Rattle.std.proofs.Common.{◌≡◌, ◌∙◌, ◌+◌, ◌<◌, ◌≤◌, ℕ, zero, suc, Bool, true, false, List, Some, ap, sym, refl, inl, inr, arith, drop}
use Rattle.std.specs.Prelude.{◌≢◌, ◌⊎◌, ◌&&◌, ◌==◌, not, slice_index, bytes_eq}
use Rattle.std.specs.Char.{to_ascii_uppercase}
use Rattle.std.specs.List.{list_all, range_with_len}
use Rattle.std.proofs.lemmas.Bool.{and_from, and_parts, both_ways, cases_lt, eq-eqb, eqb-true, not-true, not_from_false, or_cases, or_left, or_right}
use Rattle.std.proofs.lemmas.Option.{cond_some}
use Rattle.std.proofs.lemmas.Slice.Eq.{bytes_eq-Decides}
use Rattle.ps_codefile.specs.declared.entry.Entry.{Entry}
use Rattle.ps_filetype.specs.Names.{is_alike_at, is_padding, is_respelled}
use Rattle.ps_check_segments.specs.SegmentParts.{is_added}
use Rattle.ps_check_segments.specs.declared.segments.SegmentPart.{SegmentPart}
use Rattle.ps_warnings.specs.Searches.EntryFindings.{empty_slot}
use Rattle.ps_warnings.specs.Searches.LinkFindings.{taken_slot}
use Rattle.ps_warnings.specs.Warned.{IsRespelled, names_segment}
use Rattle.ps_warnings.specs.declared.finding.EntryFinding.TheVariants as entry
use Rattle.ps_warnings.specs.declared.finding.Finding.{Finding}
use Rattle.ps_warnings.specs.declared.finding.Finding.TheVariants as which
use Rattle.ps_warnings.specs.declared.finding.LinkFinding.TheVariants as link
use Rattle.ps_lists.proofs.Items.{if_is}

-- 1. an entry that names a segment
pub empty_found : (slot : ℕ) (taken : Bool) (e : Entry) (f : Finding)
    → empty_slot slot taken e ≡ Some f
    → (f ≡ which.Entry (entry.EmptySlot slot e.name e.kind)) × (taken ≡ false) × (names_segment e ≡ true)
empty_found slot taken e f h =
    let t = cond_some (not taken && names_segment e)
    (which.Entry (entry.EmptySlot slot e.name e.kind)) f h in
    let both = and_parts (not taken) (names_segment e) t.0 in
    (sym t.1, not-true taken both.0, both.1)

pub empty_each : (slot : ℕ) (taken : Bool) (e : Entry) → taken ≡ false → names_segment e ≡ true
    → empty_slot slot taken e ≡ Some (which.Entry (entry.EmptySlot slot e.name e.kind))
empty_each slot taken e free n = if_is (not taken && names_segment e)
    (which.Entry (entry.EmptySlot slot e.name e.kind))
    (and_from (not taken) (names_segment e) (not_from_false taken free) n)

pub taken_found : (slot : ℕ) (what : SegmentPart) (e : Entry) (f : Finding)
    → taken_slot slot what e ≡ Some f
    → (f ≡ which.Link (link.TakenSlot slot e.name)) × (is_added what ≡ true) × (names_segment e ≡ true)
taken_found slot what e f h =
    let t = cond_some (is_added what && names_segment e) (which.Link (link.TakenSlot slot e.name)) f h in
    let both = and_parts (is_added what) (names_segment e) t.0 in
    (sym t.1, both.0, both.1)

pub taken_each : (slot : ℕ) (what : SegmentPart) (e : Entry) → is_added what ≡ true → names_segment e ≡ true
    → taken_slot slot what e ≡ Some (which.Link (link.TakenSlot slot e.name))
taken_each slot what e added n = if_is (is_added what && names_segment e)
    (which.Link (link.TakenSlot slot e.name))
    (and_from (is_added what) (names_segment e) added n)

-- 2. names that differ in capitals or padding
all_of : (p : ℕ → Bool) (a n : ℕ) → list_all p (range_with_len a n) ≡ true
    → (i : ℕ) → a ≤ i → i < a + n → p i ≡ true
all_of p a zero h i up below = absurd (omega (arith, up, below))
all_of p a (suc n) h i up below =
    let t = and_parts (p a) (list_all p (range_with_len (a + 1) n)) h in
    elim (cases_lt a i) [
      | inl more ↦ all_of p (a + 1) n t.1 i (omega (arith, more)) (omega (arith, below))
      | inr most ↦ ap (λ (k : ℕ). p k) (let here : i ≡ a = omega (arith, up, most) in here) ∙ t.0
    ]

all_from : (p : ℕ → Bool) (a n : ℕ) → ((i : ℕ) → a ≤ i → i < a + n → p i ≡ true)
    → list_all p (range_with_len a n) ≡ true
all_from p a zero h = refl
all_from p a (suc n) h = and_from (p a) (list_all p (range_with_len (a + 1) n))
    (h a (omega arith) (omega arith))
    (all_from p (a + 1) n (λ i up below. h i (omega (arith, up)) (omega (arith, below))))

alike : (a b : List ℕ) (i : ℕ) → is_alike_at a b i ≡ true
    → (to_ascii_uppercase (slice_index a i) ≡ to_ascii_uppercase (slice_index b i))
    ⊎ ((list_all is_padding (drop i a) ≡ true) × (list_all is_padding (drop i b) ≡ true))
alike a b i h = elim (or_cases
    (to_ascii_uppercase (slice_index a i) == to_ascii_uppercase (slice_index b i))
    (list_all is_padding (drop i a) && list_all is_padding (drop i b)) h) [
      | inl e ↦ inl (eqb-true (to_ascii_uppercase (slice_index a i))
          (to_ascii_uppercase (slice_index b i)) e)
      | inr both ↦ inr (and_parts (list_all is_padding (drop i a)) (list_all is_padding (drop i b)) both)
    ]

alike_is : (a b : List ℕ) (i : ℕ)
    → (to_ascii_uppercase (slice_index a i) ≡ to_ascii_uppercase (slice_index b i))
    ⊎ ((list_all is_padding (drop i a) ≡ true) × (list_all is_padding (drop i b) ≡ true))
    → is_alike_at a b i ≡ true
alike_is a b i (inl e) = or_left
    (to_ascii_uppercase (slice_index a i) == to_ascii_uppercase (slice_index b i))
    (list_all is_padding (drop i a) && list_all is_padding (drop i b))
    (eq-eqb (to_ascii_uppercase (slice_index a i)) (to_ascii_uppercase (slice_index b i)) e)
alike_is a b i (inr (x, y)) = or_right
    (to_ascii_uppercase (slice_index a i) == to_ascii_uppercase (slice_index b i))
    (list_all is_padding (drop i a) && list_all is_padding (drop i b))
    (and_from (list_all is_padding (drop i a)) (list_all is_padding (drop i b)) x y)

pub respelled_found : (a b : List ℕ) → is_respelled a b ≡ true → IsRespelled a b
unfolding is_respelled
respelled_found a b h =
    let t = and_parts (not (bytes_eq a b)) (list_all (is_alike_at a b) (range_with_len 0 8)) h in (
      (λ e. both_ways (bytes_eq a b) (not-true (bytes_eq a b) t.0) ((bytes_eq-Decides a b).1 e)),
      λ i below. alike a b i (all_of (is_alike_at a b) 0 8 t.1 i (omega arith)
          (omega (arith, below))),
    )

same_bytes : (a b : List ℕ) (t : Bool) → bytes_eq a b ≡ t → a ≢ b → t ≡ false
same_bytes a b true e h = elim (h ((bytes_eq-Decides a b).0 e)) [ ]
same_bytes a b false e h = refl

pub respelled_each : (a b : List ℕ) → IsRespelled a b → is_respelled a b ≡ true
unfolding is_respelled
respelled_each a b (apart, each) =
    and_from (not (bytes_eq a b)) (list_all (is_alike_at a b) (range_with_len 0 8))
    (not_from_false (bytes_eq a b) (same_bytes a b (bytes_eq a b) refl apart))
    (all_from (is_alike_at a b) 0 8
    (λ i up below. alike_is a b i (each i (omega (arith, below)))))
