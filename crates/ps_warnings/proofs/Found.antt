-- Findings about the link that are added, one list after another.
use Rattle.std.proofs.Common.{◌≡◌, ◌∙◌, ◌∷◌, ◌++◌, ◌+◌, ◌-◌, ◌<◌, ◌≤◌, [], ℕ, suc, List, length, drop, map, append_assoc, append-nil, sym, ap, subst, arith}
use Rattle.std.specs.List.{enumerate_from, filter, flat_map, range_with_len}
use Rattle.std.proofs.lemmas.List.{drop_all, map-append}
use Rattle.std.proofs.lemmas.List.Elements.{filter-append}
use Rattle.ps_warnings.specs.Found.{Adds, Stated, about_link_in, is_about_link, stated, stated_at}
use Rattle.ps_warnings.specs.declared.finding.Finding.{Finding}
use Rattle.ps_warnings.specs.declared.finding.Place.{Place}
use Rattle.ps_warnings.specs.declared.finding.FindingAt.{FindingAt}

pub adds_none : (l : List Stated) → Adds l [] l
adds_none l = record { all = sym (append-nil l) }

pub adds_both : {a b c : List Stated} {f g : List Stated} → Adds a f b → Adds b g c
    → Adds a (f ++ g) c
adds_both {a = a} {f = f} {g = g} h k = record {
  all = k.all ∙ (ap (λ (l : List Stated). l ++ g) h.all ∙ append_assoc a f g);
}

pub adds_is : {a b : List Stated} {f g : List Stated} → f ≡ g → Adds a f b → Adds a g b
adds_is {a = a} {b = b} e h = subst (λ (l : List Stated). Adds a l b) e h

-- nothing before, and nothing after
pub none_then : {a b c : List Stated} {f : List Stated} → Adds a [] b → Adds b f c → Adds a f c
none_then h k = adds_both h k

pub then_none : {a b c : List Stated} {f : List Stated} → Adds a f b → Adds b [] c → Adds a f c
then_none {f = f} h k = adds_is (append-nil f) (adds_both h k)

-- what is added to nothing is all that there is
pub only_found : (before : List FindingAt) (found new : List Stated) → before ≡ []
    → Adds (about_link_in before) found new → new ≡ found
unfolding about_link_in
only_found before found new none is = (rw none at is).all

-- all these findings: some were added, and those that are left are still to be
pub record Owes (old : List Stated) (all left : List Stated) (new : List Stated) : Type 0 where
  pub done : List Stated
  pub split : done ++ left ≡ all
  pub added : Adds old done new

pub owes_all : {l : List Stated} {all left : List Stated} → left ≡ all → Owes l all left l
owes_all {l = l} e = record { done = []; split = e; added = adds_none l }

pub owes_after : {old mid new : List Stated} {all left : List Stated} → Adds old [] mid
    → Owes mid all left new → Owes old all left new
owes_after h k = record { done = k.done; split = k.split; added = none_then h k.added }

pub owes_less : {old mid new : List Stated} {all left here rest : List Stated}
    → left ≡ here ++ rest → Owes old all left mid → Adds mid here new
    → Owes old all rest new
owes_less {here = here} {rest = rest} e h more = record {
  done = h.done ++ here;
  split = append_assoc h.done here rest
      ∙ (ap (λ (l : List Stated). h.done ++ l) (sym e) ∙ h.split);
  added = adds_both h.added more;
}

pub owes_none : {old new : List Stated} {all left : List Stated} → left ≡ []
    → Owes old all left new → Adds old all new
owes_none e h = adds_is (sym (append-nil h.done)
    ∙ (ap (λ (l : List Stated). h.done ++ l) (sym e) ∙ h.split)) h.added

-- what is left of slots, of items, and of items with their numbers
module _ (f : ℕ → List Stated) (i n : ℕ) where
  pub slots_left : i < n → flat_map f (range_with_len i (n - i))
      ≡ f i ++ flat_map f (range_with_len (i + 1) (n - (i + 1)))
  slots_left lt = let left : n - i ≡ suc (n - (i + 1)) = omega arith in
      ap (λ (k : ℕ). flat_map f (range_with_len i k)) left

  pub slots_over : n ≤ i → flat_map f (range_with_len i (n - i)) ≡ []
  slots_over le = let left : n - i ≡ 0 = omega arith in
      ap (λ (k : ℕ). flat_map f (range_with_len i k)) left

module _ {X : Type 0} (f : X → List Stated) (xs : List X) (i : ℕ) where
  pub items_left : (x : X) → drop i xs ≡ x ∷ drop (i + 1) xs
      → flat_map f (drop i xs) ≡ f x ++ flat_map f (drop (i + 1) xs)
  items_left x h = ap (λ (ys : List X). flat_map f ys) h

  pub items_over : length xs ≤ i → flat_map f (drop i xs) ≡ []
  items_over le = ap (λ (ys : List X). flat_map f ys) (drop_all i xs le)

module _ {X : Type 0} (f : ℕ × X → List Stated) (k : ℕ) (xs : List X) (i : ℕ) where
  pub numbered_left : (x : X) → drop i xs ≡ x ∷ drop (i + 1) xs
      → flat_map f (enumerate_from k (drop i xs))
      ≡ f (k, x) ++ flat_map f (enumerate_from (k + 1) (drop (i + 1) xs))
  numbered_left x h = ap (λ (ys : List X). flat_map f (enumerate_from k ys)) h

  pub numbered_over : length xs ≤ i → flat_map f (enumerate_from k (drop i xs)) ≡ []
  numbered_over le = ap (λ (ys : List X). flat_map f (enumerate_from k ys)) (drop_all i xs le)

-- what a push adds
pub pushed : (found : List FindingAt) (place : Place) (f : Finding)
    → Adds (about_link_in found) (stated_at place.path.now place.segment place.rec f)
    (about_link_in (found ++ record { place = place; finding = f } ∷ []))
unfolding about_link_in
pushed found place f = record {
  all = ap (filter (λ (s : Stated). is_about_link s.finding))
      (map-append stated found (record { place = place; finding = f } ∷ []))
      ∙ filter-append (λ (s : Stated). is_about_link s.finding) (map stated found)
      (stated (record { place = place; finding = f }) ∷ []);
}
