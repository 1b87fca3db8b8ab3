-- The first of what an iterator gives, and how many it gives after that.
use Rattle.std.proofs.Common.{◌≡◌, ◌∙◌, ◌+◌, ◌-◌, ◌∷◌, [], ℕ, zero, suc, Bor, List, length, ap, arith, drop, refl, sym}
use Rattle.std.specs.Prelude.{Option, Some, None}
use Rattle.std.specs.Iterator.{Drains}
use Rattle.std.specs.List.{range_with_len}
use Rattle.std.specs.Option.{option_map}
use Rattle.std.proofs.lemmas.Iterator.{YieldsList}
use Rattle.std.proofs.lemmas.Iterator.Consumers.{count_from_yields_List}
use Rattle.std.proofs.Math.ListN.{length-map}
use Rattle.ps_resolve.specs.Sources.{contents}
use Rattle.ps_explained.specs.OverviewText.{first_and_more, libraries_after}

module _ {S A B : Type 0} {steps : S → Option A → S → Type 0} {v : A → B} {s : S} (u : S) where
  pub none_of : (all : List B) (r : Option A) → YieldsList steps v s all → r ≡ None
      → steps s r u → None ≡ first_and_more all
  none_of [] r gives is ended = refl
  none_of (y ∷ ys) r gives is ended =
      absurd (gives.runs.0 u (rw is at ended))

  pub first_of : (all : List B) (r : Option A) (x : A) (n : ℕ) → YieldsList steps v s all
      → r ≡ Some x → steps s r u → ((xs : List A) × Drains steps u xs × (n ≡ length xs))
      → Some (v x, n) ≡ first_and_more all
  first_of [] r x n gives is next others =
      absurd (gives.runs x u (rw is at next))
  first_of (y ∷ ys) r x n gives is next others =
      let left = gives.runs.1 x u (rw is at next) in
      let count : n ≡ length ys = count_from_yields_List {steps = steps} {v = v} u n others
      (record { runs = left.1 }) in
      rw (count, left.0) refl

-- what is found is the first, where its form is
pub of_found : {X Y : Type 0} (f : X → Y) (o : Option X) (x : X) (all : Option Y)
    → option_map f o ≡ all → o ≡ Some x → all ≡ Some (f x)
of_found f o x all same is = sym same ∙ ap (option_map f) is

-- the numbers of the libraries after one, of so many files that are lent
skipped : (used n m : ℕ) → m ≡ n - 1
    → drop 1 (range_with_len used n) ≡ range_with_len (used + 1) m
skipped used zero m e = let none : m ≡ 0 = omega arith in rw none refl
skipped used (suc n) m e = let same : n ≡ m = omega arith in rw same refl

pub after_skip : (files : List (Bor (List ℕ))) (used : ℕ)
    → drop 1 (range_with_len used ((length files + 1) - used))
    ≡ libraries_after used (contents files)
after_skip files used = let count : length (contents files) ≡ length files = length-map files _ in
    skipped used ((length files + 1) - used) (length (contents files) - used) (omega arith)

pub all_libraries : (files : List (Bor (List ℕ)))
    → range_with_len 1 (length files) ≡ libraries_after 0 (contents files)
all_libraries files = let count : length (contents files) ≡ length files = length-map files _ in
    let same : length (contents files) - 0 ≡ length files = omega arith in rw same refl
