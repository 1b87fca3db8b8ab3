-- Places of items in lists that are made of others, and in what is kept of the numbers of a range.
use Rattle.std.proofs.Common.{◌≡◌, ◌∙◌, ◌+◌, ◌<◌, ◌≤◌, ◌++◌, ◌∷◌, [], ℕ, zero, suc, Bool, List, length, take, true, false, refl, ap, inl, inr, arith}
use Rattle.std.specs.Prelude.{◌⊎◌, Option, Some, None, filter, filter_map, if◌then◌else◌, slice_get}
use Rattle.std.specs.List.{cons_option, find, list_any, range_with_len}
use Rattle.std.proofs.lemmas.Bool.{cases_Bool, cases_lt, false≢true, or_cases, or_left, or_right}
use Rattle.std.proofs.lemmas.Option.{none-some, same_Some}
use Rattle.ps_lists.proofs.Items.{In, at_range}

-- an item of two lists, one behind the other
pub of_joined : {X : Type 0} (xs ys : List X) (i : ℕ) (x : X) → slice_get (xs ++ ys) i ≡ Some x
    → (slice_get xs i ≡ Some x) ⊎ ((j : ℕ) × (length xs + j ≡ i) × (slice_get ys j ≡ Some x))
of_joined [] ys i x e = inr (i, omega arith, e)
of_joined (y ∷ xs) ys zero x e = inl e
of_joined (y ∷ xs) ys (suc i) x e = elim (of_joined xs ys i x e) [
  | inl here ↦ inl here
  | inr there ↦ inr (there.0, omega (arith, there.1), there.2)
]

-- the item of an option
pub of_option : {X : Type 0} (o : Option X) (j : ℕ) (x : X)
    → slice_get (cons_option o []) j ≡ Some x → (o ≡ Some x) × (j ≡ 0)
of_option None j x e = absurd (cc)
of_option (Some y) zero x e = (e, refl)
of_option (Some y) (suc j) x e = absurd (cc)

-- the item of a list of one
pub of_one : {X : Type 0} (x y : X) (j : ℕ) → slice_get (x ∷ []) j ≡ Some y → x ≡ y
of_one x y zero e = same_Some x y e
of_one x y (suc j) e = absurd (cc)

-- an item of a front, and of what passes a test
pub in_front : {X : Type 0} (n : ℕ) (xs : List X) (j : ℕ) → j < n
    → slice_get (take n xs) j ≡ slice_get xs j
in_front zero xs j lt = absurd (omega arith)
in_front (suc n) [] j lt = refl
in_front (suc n) (x ∷ xs) zero lt = refl
in_front (suc n) (x ∷ xs) (suc j) lt = in_front n xs j (omega arith)

pub of_front : {X : Type 0} (n : ℕ) (xs : List X) (j : ℕ) (x : X)
    → slice_get (take n xs) j ≡ Some x → slice_get xs j ≡ Some x
of_front zero xs j x e = absurd (none-some x e)
of_front (suc n) [] j x e = e
of_front (suc n) (y ∷ xs) zero x e = e
of_front (suc n) (y ∷ xs) (suc j) x e = of_front n xs j x e

pub of_filter : {X : Type 0} (test : X → Bool) (xs : List X) (i : ℕ) (x : X)
    → slice_get (filter test xs) i ≡ Some x → In x xs
of_filter test [] i x e = absurd (none-some x e)
of_filter test (y ∷ xs) i x e = by (test y) i e (λ j d. of_filter test xs j x d)
  where
    by : (b : Bool) (i : ℕ) → slice_get (if b then y ∷ filter test xs else filter test xs) i ≡ Some x
        → ((j : ℕ) → slice_get (filter test xs) j ≡ Some x → In x xs) → In x (y ∷ xs)
    by true zero e more = (zero, e)
    by true (suc i) e more = let t = more i e in (suc t.0, t.1)
    by false i e more = let t = more i e in (suc t.0, t.1)

-- an item passes a test, or none does
pub of_any : {X : Type 0} (test : X → Bool) (xs : List X) → list_any test xs ≡ true
    → (x : X) × In x xs × (test x ≡ true)
of_any test [] h = absurd (false≢true h)
of_any test (x ∷ xs) h = elim (or_cases (test x) (list_any test xs) h) [
  | inl here ↦ (x, (zero, refl), here)
  | inr more ↦ (let t = of_any test xs more in (t.0, (suc t.1.0, t.1.1), t.2))
]

pub in_any : {X : Type 0} (test : X → Bool) (xs : List X) (k : ℕ) (x : X)
    → slice_get xs k ≡ Some x → test x ≡ true → list_any test xs ≡ true
in_any test [] k x e h = absurd (cc)
in_any test (y ∷ xs) zero x e h = grind (arith, or_left)
in_any test (y ∷ xs) (suc k) x e h = grind (arith, or_right, in_any test xs k x e h)

-- what a search finds is in the list; where it finds nothing, no item passes
pub of_find : {X : Type 0} (test : X → Bool) (xs : List X) (x : X) → find test xs ≡ Some x
    → In x xs
of_find test [] x e = absurd (cc)
of_find test (y ∷ ys) x e = elim (cases_Bool (test y)) [
  | inl is ↦ (zero, rw is at e)
  | inr other ↦ (let t = of_find test ys x (rw other at e) in (suc t.0, t.1))
]

pub none_found : {X : Type 0} (test : X → Bool) (xs : List X) (k : ℕ) (x : X)
    → find test xs ≡ None → slice_get xs k ≡ Some x → test x ≡ false
none_found test [] k x none e = absurd (cc)
none_found test (y ∷ ys) zero x none e = grind (arith, cases_Bool (test y))
none_found test (y ∷ ys) (suc k) x none e =
    grind (arith, cases_Bool (test y), none_found test ys k x)

-- a number of a range, by its place
pub from_zero : (n k : ℕ) → k < n → slice_get (range_with_len 0 n) k ≡ Some k
from_zero n k lt = let same : 0 + k ≡ k = omega arith in
    at_range 0 n k lt ∙ ap (λ (j : ℕ). Some j) same

pub of_range : (a n k x : ℕ) → slice_get (range_with_len a n) k ≡ Some x → (x ≡ a + k) × (k < n)
of_range a zero k x e = absurd (cc)
of_range a (suc n) zero x e = grind arith
of_range a (suc n) (suc k) x e = let t = of_range (a + 1) n k x e in
    (omega (arith, t.0), omega (arith, t.1))

-- what is kept of the numbers of a range
module _ {X : Type 0} (f : ℕ → Option X) where
  abbrev kept : ℕ → ℕ → List X
  kept a n = filter_map f (range_with_len a n)

  -- it is that of a number
  pub of_kept : (a n i : ℕ) (x : X) → slice_get (kept a n) i ≡ Some x
      → (k : ℕ) × (a ≤ k) × (k < a + n) × (f k ≡ Some x)
  of_kept a zero i x e = absurd (cc)
  of_kept a (suc n) i x e = by (f a) refl i e (λ j at. of_kept (a + 1) n j x at)
    where
      Of : ℕ → ℕ → Type 0
      Of a n = (k : ℕ) × (a ≤ k) × (k < a + n) × (f k ≡ Some x)

      later : Of (a + 1) n → Of a (suc n)
      later t = (t.0, omega (arith, t.1), omega (arith, t.2), t.3)

      by : (o : Option X) → f a ≡ o → (j : ℕ)
          → slice_get (cons_option o (kept (a + 1) n)) j ≡ Some x
          → ((j : ℕ) → slice_get (kept (a + 1) n) j ≡ Some x → Of (a + 1) n) → Of a (suc n)
      by None is j at more = later (more j at)
      by (Some y) is zero at more = (a, omega arith, omega arith, is ∙ at)
      by (Some y) is (suc j) at more = later (more j at)

  -- of each number what it gives is kept
  pub in_kept : (a n k : ℕ) (x : X) → a ≤ k → k < a + n → f k ≡ Some x → In x (kept a n)
  in_kept a zero k x low high e = absurd (omega arith)
  in_kept a (suc n) k x low high e = elim (cases_lt a k) [
    | inl lt ↦ (let t = in_kept (a + 1) n k x (omega (arith, lt)) (omega (arith, high)) e in
        behind (f a) (kept (a + 1) n) t)
    | inr ge ↦ (let same : a ≡ k = omega (arith, low, ge) in (zero, rw (ap f same ∙ e)))
  ]
    where
      behind : (o : Option X) (xs : List X) → In x xs → In x (cons_option o xs)
      behind None xs t = t
      behind (Some y) xs t = (suc t.0, t.1)

  -- items in their order are of numbers in theirs
  pub rising : (a n i j : ℕ) (x y : X) → i < j → slice_get (kept a n) i ≡ Some x
      → slice_get (kept a n) j ≡ Some y
      → (k : ℕ) × (m : ℕ) × (f k ≡ Some x) × (f m ≡ Some y) × (k < m) × (m < a + n)
  rising a zero i j x y less e u = absurd (cc)
  rising a (suc n) i j x y less e u = by (f a) refl i j less e u
      (λ i j less e u. rising (a + 1) n i j x y less e u)
    where
      Rise : ℕ → ℕ → Type 0
      Rise a n = (k : ℕ) × (m : ℕ) × (f k ≡ Some x) × (f m ≡ Some y) × (k < m) × (m < a + n)

      later : Rise (a + 1) n → Rise a (suc n)
      later t = (t.0, t.1, t.2, t.3, t.4, omega (arith, t.5))

      by : (o : Option X) → f a ≡ o → (i j : ℕ) → i < j
          → slice_get (cons_option o (kept (a + 1) n)) i ≡ Some x
          → slice_get (cons_option o (kept (a + 1) n)) j ≡ Some y
          → ((i j : ℕ) → i < j → slice_get (kept (a + 1) n) i ≡ Some x
          → slice_get (kept (a + 1) n) j ≡ Some y → Rise (a + 1) n) → Rise a (suc n)
      by None is i j less e u more = later (more i j less e u)
      by (Some z) is i zero less e u more = absurd (omega (arith, less))
      by (Some z) is zero (suc j) less e u more = let t = of_kept (a + 1) n j y u in
          (a, t.0, is ∙ e, t.3, omega (arith, t.1), omega (arith, t.2))
      by (Some z) is (suc i) (suc j) less e u more = later (more i j (omega (arith, less)) e u)
