-- What is in a list, by its place there, and what an option has.
use Rattle.std.proofs.Common.{◌≡◌, ◌∙◌, ℕ, zero, suc, ◌+◌, ◌<◌, ◌≤◌, All, Bool, true, false, List, [], ◌∷◌, ◌++◌, length, map, take, Option, Some, None, refl, ap, subst, inl, inr, arith, rules}
use Rattle.std.specs.Prelude.{◌⊎◌, ⊤, find, if◌then◌else◌, slice_get}
use Rattle.std.specs.List.{cons_option, enumerate_from, filter, filter_map, flat_map, list_any, range_with_len}
use Rattle.std.proofs.lemmas.Bool.{cases_Bool, cases_lt, cases_order, false≢true, or_cases}
use Rattle.std.proofs.lemmas.List.Elements.{All-tail}
use Rattle.std.proofs.lemmas.Option.{get_or_from_slice_get, same_Some, slice_get-get_or, slice_get_within}

-- 1. options
pub none : {X : Type 0} (x : X) (P : Type 0) → None ≡ Some x → P
none x P h = absurd (cc)

pub cases : {X : Type 0} (o : Option X) → (o ≡ None) ⊎ ((x : X) × (o ≡ Some x))
cases None = inl refl
cases (Some x) = inr (x, refl)

pub if_is : {X : Type 0} (c : Bool) (x : X) → c ≡ true → (if c then Some x else None) ≡ Some x
if_is c x e = rw e

pub if_both : {X : Type 0} (c : Bool) (o : Option X) (x : X) → (if c then o else None) ≡ Some x
    → (c ≡ true) × (o ≡ Some x)
if_both true o x h = (refl, h)
if_both false o x h = none x _ h

-- 2. what is at a place
abbrev pub In : {A : Type 0} → A → List A → Type 0
In a xs = (i : ℕ) × (slice_get xs i ≡ Some a)

-- what holds of all items holds of the item at a place
pub of_all : {A : Type 0} (P : A → Type 0) (xs : List A) → All P xs → (i : ℕ) (x : A)
    → slice_get xs i ≡ Some x → P x
of_all P xs all i x e = grind (arith, get_or_from_slice_get, slice_get_within)

pub all_items : {A : Type 0} (P : A → Type 0) (xs : List A)
    → ((k : ℕ) (x : A) → slice_get xs k ≡ Some x → P x) → All P xs
all_items P xs h i x lt = grind (arith, slice_get-get_or)

-- each item is in the list
pub all_in : {A : Type 0} (xs : List A) → All (λ x. In x xs) xs
all_in xs i x lt = (i, slice_get-get_or xs i x lt)

-- joined lists
pub at_left : {A : Type 0} (xs ys : List A) (i : ℕ) (a : A) → slice_get xs i ≡ Some a
    → slice_get (xs ++ ys) i ≡ Some a
at_left [] ys i a e = absurd (cc)
at_left (x ∷ xs) ys zero a e = e
at_left (x ∷ xs) ys (suc i) a e = at_left xs ys i a e

-- after the first of two joined lists is the second
pub right_at : {A : Type 0} (xs ys : List A) (q : ℕ)
    → slice_get (xs ++ ys) (length xs + q) ≡ slice_get ys q
right_at {A} [] ys q = grind arith
right_at {A} (x ∷ xs) ys q = grind (arith, right_at xs ys q)

-- its first item is right after the first
pub first_right : {A : Type 0} (xs ys : List A) (k : ℕ) → k ≡ length xs
    → slice_get (xs ++ ys) k ≡ slice_get ys 0
first_right xs ys k e = grind (arith, right_at)

-- the place before one that is taken is taken
pub some_before : {A : Type 0} (xs : List A) (i j : ℕ) (a : A) → i ≤ j
    → slice_get xs j ≡ Some a → slice_get xs i ≡ None → ⊥
some_before [] i j a h e n = absurd (cc)
some_before (x ∷ xs) zero j a h e n = absurd (cc)
some_before (x ∷ xs) (suc i) zero a h e n = omega (arith, h)
some_before (x ∷ xs) (suc i) (suc j) a h e n = some_before xs i j a (omega (arith, h)) e n

-- what is found passes the test, and has what all have
pub find_has : {X : Type 0} (P : X → Type 0) (test : X → Bool) (xs : List X) (x : X)
    → find test xs ≡ Some x → All P xs → (test x ≡ true) × P x
find_has P test [] x h all = cc
find_has {X} P test (y ∷ ys) x h all =
    by (λ e. find_has P test ys x e (All-tail P y ys all)) (test y) refl
  where
    by : (find test ys ≡ Some x → (test x ≡ true) × P x) → (b : Bool) → test y ≡ b
        → (test x ≡ true) × P x
    by rest b e = grind arith

-- what a search finds passes its test
pub find_passes : {A : Type 0} (test : A → Bool) (xs : List A) (x : A) → find test xs ≡ Some x
    → test x ≡ true
find_passes test xs x e = (find_has (λ q. ⊤) test xs x e (λ i q lt. tt)).0

-- 3. lists that are made of others
-- numbers of which none is before the other
pub not_apart : (i j : ℕ) → (i < j → ⊥) → (j < i → ⊥) → i ≡ j
not_apart i j h k = grind (arith, cases_order)

module _ {A : Type 0} (xs ys : List A) (a : A) where
  -- joined lists
  pub in_left : In a xs → In a (xs ++ ys)
  in_left t = (t.0, at_left xs ys t.0 a t.1)

  pub in_right : In a ys → In a (xs ++ ys)
  in_right t = (length xs + t.0, right_at xs ys t.0 ∙ t.1)

-- lists that are made of others
pub in_flat : {A C : Type 0} (f : A → List C) (xs : List A) (x : A) (y : C) → In x xs
    → In y (f x) → In y (flat_map f xs)
in_flat f [] x y t u = absurd (let e = t.1 in cc)
in_flat f (z ∷ xs) x y (zero, e) u = grind (arith, in_left)
in_flat f (z ∷ xs) x y (suc i, e) u = in_right (f z) (flat_map f xs) y (in_flat f xs x y (i, e) u)

-- what is in a list with one more item, if there is one
in_more : {C : Type 0} (o : Option C) (ys : List C) (y : C) → In y ys → In y (cons_option o ys)
in_more None ys y t = t
in_more (Some c) ys y t = (suc t.0, t.1)

of_more : {C : Type 0} (o : Option C) (ys : List C) (y : C) → In y (cons_option o ys)
    → (o ≡ Some y) ⊎ In y ys
of_more o ys y t = grind arith

-- what an item gives is in the list of what all give
pub in_filter_map : {A C : Type 0} (f : A → Option C) (xs : List A) (x : A) (y : C) → In x xs
    → f x ≡ Some y → In y (filter_map f xs)
in_filter_map f [] x y t u = search (rules, arith)
in_filter_map f (z ∷ xs) x y (zero, e) u = grind arith
in_filter_map f (z ∷ xs) x y (suc i, e) u =
    in_more (f z) (filter_map f xs) y (in_filter_map f xs x y (i, e) u)

-- what is in the list of what all items give is given by one of them
pub of_filter_map : {A C : Type 0} (f : A → Option C) (xs : List A) (y : C)
    → In y (filter_map f xs) → (x : A) × In x xs × (f x ≡ Some y)
of_filter_map f [] y t = grind arith
of_filter_map f (z ∷ xs) y t = elim (of_more (f z) (filter_map f xs) y t) [
  | inl e ↦ (z, (zero, refl), e)
  | inr u ↦ (let r = of_filter_map f xs y u in (r.0, (suc r.1.0, r.1.1), r.2))
]

-- numbers of a range
pub in_range : (a n i : ℕ) → a ≤ i → i < a + n → In i (range_with_len a n)
in_range a zero i low high = search (rules, arith)
in_range a (suc n) i low high = elim (cases_lt a i) [
  | inl h ↦ (let r = in_range (a + 1) n i (omega (arith, h)) (omega (arith, high)) in
      (suc r.0, r.1))
  | inr h ↦ (zero, ap (λ (m : ℕ). Some m) (omega (arith, h, low)))
]

-- the items of a range that pass a test are in the range, and they ascend
pub of_filter : (test : ℕ → Bool) (a n i j : ℕ) → slice_get (filter test
    (range_with_len a n)) j ≡ Some i → (a ≤ i) × (i < a + n) × (test i ≡ true)
of_filter test a zero i j e = absurd (cc)
of_filter test a (suc n) i j e = grind (arith, of_filter test (a + 1) n i)

-- an item that passes the test is among those that do
pub in_filter : {A : Type 0} (test : A → Bool) (xs : List A) (x : A) → In x xs
    → test x ≡ true → In x (filter test xs)
in_filter test [] x t h = search (rules, arith)
in_filter test (y ∷ xs) x (zero, e) h = grind arith
in_filter test (y ∷ xs) x (suc i, e) h = behind (test y) (in_filter test xs x (i, e) h)
  where
    behind : (b : Bool) → In x (filter test xs)
        → In x (if b then y ∷ filter test xs else filter test xs)
    behind true r = (suc r.0, r.1)
    behind false r = r

-- an item of a prefix
pub of_take : {A : Type 0} (n : ℕ) (xs : List A) (i : ℕ) (x : A)
    → slice_get (take n xs) i ≡ Some x → (i < n) × (slice_get xs i ≡ Some x)
of_take zero xs i x e = absurd (cc)
of_take (suc n) [] i x e = absurd (cc)
of_take (suc n) (y ∷ xs) zero x e = (omega arith, e)
of_take (suc n) (y ∷ xs) (suc i) x e = grind (arith, of_take n xs i x e)

-- an item before n is among the first n items
pub in_front : {A : Type 0} (n : ℕ) (xs : List A) (i : ℕ) (x : A) → i < n
    → slice_get xs i ≡ Some x → slice_get (take n xs) i ≡ Some x
in_front zero xs i x l e = absurd (omega (arith, l))
in_front (suc n) [] i x l e = absurd (cc)
in_front (suc n) (y ∷ xs) zero x l e = e
in_front (suc n) (y ∷ xs) (suc i) x l e = in_front n xs i x (omega (arith, l)) e

-- an item with its number
pub of_numbered : {A : Type 0} (n : ℕ) (xs : List A) (k : ℕ) (p : ℕ × A) → slice_get
    (enumerate_from n xs) k ≡ Some p → (p.0 ≡ n + k) × (slice_get xs k ≡ Some p.1)
of_numbered n [] k p e = absurd (cc)
of_numbered {A} n (x ∷ xs) zero p e = grind arith
of_numbered n (x ∷ xs) (suc k) p e = grind (arith, of_numbered (n + 1) xs k p e)

-- an item is at the same place of the numbered list, with its number
pub in_numbered : {A : Type 0} (n : ℕ) (xs : List A) (k : ℕ) (x : A)
    → slice_get xs k ≡ Some x → slice_get (enumerate_from n xs) k ≡ Some (n + k, x)
in_numbered n [] k x e = absurd (cc)
in_numbered {A} n (y ∷ xs) zero x e = grind arith
in_numbered n (y ∷ xs) (suc k) x e = grind (arith, in_numbered (n + 1) xs k x e)

-- the numbers of a range that pass a test ascend
pub filter_ascends : (test : ℕ → Bool) (a n i j x y : ℕ) → i < j
    → slice_get (filter test (range_with_len a n)) i ≡ Some x
    → slice_get (filter test (range_with_len a n)) j ≡ Some y → x < y
filter_ascends test a zero i j x y h e u = absurd (cc)
filter_ascends test a (suc n) i j x y h e u =
    grind (arith, of_filter, filter_ascends test (a + 1) n)

-- what a search finds is in the list
pub find_in : {A : Type 0} (test : A → Bool) (xs : List A) (x : A) → find test xs ≡ Some x
    → In x xs
find_in test xs x e = (find_has (λ q. In q xs) test xs x e (all_in xs)).1

-- numbers of a range, by their places
pub of_range : (a n i j : ℕ) → slice_get (range_with_len a n) j ≡ Some i
    → (a ≤ i) × (i < a + n) × (i ≡ a + j)
of_range a zero i j e = none i _ e
of_range a (suc n) i zero e = let is : a ≡ i = same_Some a i e in
    (omega (arith, is), omega (arith, is), omega (arith, is))
of_range a (suc n) i (suc j) e = let r = of_range (a + 1) n i j e in
    (omega (arith, r.0), omega (arith, r.1), omega (arith, r.2))

pub at_range : (a n j : ℕ) → j < n → slice_get (range_with_len a n) j ≡ Some (a + j)
at_range a zero j below = absurd (omega (arith, below))
at_range a (suc n) zero below = ap (λ (k : ℕ). Some k) (let e : a ≡ a + 0 = omega arith in e)
at_range a (suc n) (suc j) below = at_range (a + 1) n j (omega (arith, below))
    ∙ ap (λ (k : ℕ). Some k) (let e : a + 1 + j ≡ a + suc j = omega arith in e)

-- what a function gives of each item
pub of_map : {A C : Type 0} (f : A → C) (xs : List A) (j : ℕ) (y : C)
    → slice_get (map f xs) j ≡ Some y → (x : A) × (slice_get xs j ≡ Some x) × (f x ≡ y)
of_map f [] j y e = none y _ e
of_map f (x ∷ xs) zero y e = (x, refl, same_Some (f x) y e)
of_map f (x ∷ xs) (suc j) y e = of_map f xs j y e

pub in_map : {A C : Type 0} (f : A → C) (xs : List A) (j : ℕ) (x : A)
    → slice_get xs j ≡ Some x → slice_get (map f xs) j ≡ Some (f x)
in_map f [] j x e = none x _ e
in_map f (y ∷ xs) zero x e = grind arith
in_map f (y ∷ xs) (suc j) x e = in_map f xs j x e

-- 4. an item that passes a test, and the first one
pub of_any : {A : Type 0} (test : A → Bool) (xs : List A) → list_any test xs ≡ true
    → (k : ℕ) × (x : A) × (slice_get xs k ≡ Some x) × (test x ≡ true)
of_any test [] h = absurd (false≢true h)
of_any test (x ∷ xs) h = elim (or_cases (test x) (list_any test xs) h) [
  | inl here ↦ (zero, x, refl, here)
  | inr more ↦ (let r = of_any test xs more in (suc r.0, r.1, r.2, r.3))
]

pub of_find : {A : Type 0} (test : A → Bool) (xs : List A) (y : A) → find test xs ≡ Some y
    → (j : ℕ) × (slice_get xs j ≡ Some y) × (test y ≡ true)
of_find test [] y h = none y _ h
of_find test (x ∷ xs) y h = elim (cases_Bool (test x)) [
  | inl e ↦ (let is = same_Some x y (rw e at h) in (zero, rw is, rw is at e))
  | inr e ↦ (let r = of_find test xs y (rw e at h) in (suc r.0, r.1, r.2))
]

-- where one passes, the first that passes is this one or before it
abbrev pub FirstUpTo : {A : Type 0} → (A → Bool) → List A → ℕ → Type 0
FirstUpTo {A} test xs k = (j : ℕ) × (x : A) × (find test xs ≡ Some x)
    × (slice_get xs j ≡ Some x) × (test x ≡ true) × (j ≤ k)

pub in_find : {A : Type 0} (test : A → Bool) (xs : List A) (k : ℕ) (x : A)
    → slice_get xs k ≡ Some x → test x ≡ true → FirstUpTo test xs k
in_find test [] k x at h = none x _ at
in_find test (y ∷ xs) zero x at h = let is = same_Some y x at in
    let e : test y ≡ true = rw is h in (zero, y, rw e, refl, e, omega arith)
in_find test (y ∷ xs) (suc k) x at h = elim (cases_Bool (test y)) [
  | inl e ↦ (zero, y, rw e, refl, e, omega arith)
  | inr e ↦ (let r = in_find test xs k x at h in let le = r.5 in
      (suc r.0, r.1, (rw e r.2), r.3, r.4, omega (arith, le)))
]

-- 5. items that pass a test, counted
pub some_in : {A : Type 0} (p : A → Bool) (xs : List A) → 0 < length (filter p xs)
    → (k : ℕ) × (x : A) × (slice_get xs k ≡ Some x) × (p x ≡ true)
some_in p [] h = absurd (omega (arith, h))
some_in p (x ∷ xs) h = elim (cases_Bool (p x)) [
  | inl e ↦ (zero, x, refl, e)
  | inr e ↦ (let m = some_in p xs (rw e at h) in (suc m.0, m.1, m.2, m.3))
]

pub in_some : {A : Type 0} (p : A → Bool) (xs : List A) (k : ℕ) (x : A)
    → slice_get xs k ≡ Some x → p x ≡ true → 0 < length (filter p xs)
in_some p [] k x at h = none x _ at
in_some p (z ∷ xs) zero x at h = grind arith
in_some p (z ∷ xs) (suc k) x at h = grind (arith, in_some p xs k x at h)

-- 6. items with numbers that ascend, from one number on and before another
abbrev pub Ascends : {X : Type 0} → (ℕ → X → Type 0) → ℕ → ℕ → List X → Type 0
Ascends R low high [] = low ≤ high
Ascends R low high (x ∷ xs) = (n : ℕ) × (low ≤ n) × R n x × Ascends R (n + 1) high xs

module _ {X : Type 0} (R : ℕ → X → Type 0) where
  pub wider : (a b c d : ℕ) (xs : List X) → Ascends R b c xs → a ≤ b → c ≤ d → Ascends R a d xs
  wider a b c d [] h l m = omega (arith, h, l, m)
  wider a b c d (x ∷ xs) (n, le, r, more) l m =
      (n, omega (arith, l, le), r, wider (n + 1) (n + 1) c d xs more (omega arith) m)

  pub one_then : (a b c d : ℕ) (xs ys : List X) → Ascends R a b xs → Ascends R c d ys → b ≤ c
      → Ascends R a d (xs ++ ys)
  one_then a b c d [] ys h k le = wider a c d d ys k (omega (arith, h, le)) (omega arith)
  one_then a b c d (x ∷ xs) ys (n, l, r, more) k le =
      (n, l, r, one_then (n + 1) b c d xs ys more k le)

  -- what the items give, of which each has its own numbers
  pub each_then : {A : Type 0} (f : A → List X) (start : ℕ → ℕ) (xs : List A)
      → ((k : ℕ) (x : A) → slice_get xs k ≡ Some x → Ascends R (start k) (start (suc k)) (f x))
      → Ascends R (start 0) (start (length xs)) (flat_map f xs)
  each_then f start [] each = omega arith
  each_then f start (x ∷ xs) each = one_then (start 0) (start 1) (start 1) (start (suc (length xs)))
      (f x) (flat_map f xs) (each 0 x refl)
      (each_then f (λ k. start (suc k)) xs (λ k y at. each (suc k) y at)) (omega arith)

  pub each_numbered : {A : Type 0} (f : ℕ × A → List X) (start : ℕ → ℕ) (n : ℕ) (xs : List A)
      → ((k j : ℕ) (x : A) → j ≡ n + k → slice_get xs k ≡ Some x
      → Ascends R (start k) (start (suc k)) (f (j, x)))
      → Ascends R (start 0) (start (length xs)) (flat_map f (enumerate_from n xs))
  each_numbered f start n [] each = omega arith
  each_numbered f start n (x ∷ xs) each = one_then (start 0) (start 1) (start 1)
      (start (suc (length xs))) (f (n, x)) (flat_map f (enumerate_from (n + 1) xs))
      (each 0 n x (omega arith) refl) (each_numbered f (λ k. start (suc k)) (n + 1) xs
      (λ k j y is at. each (suc k) j y (omega (arith, is)) at)) (omega arith)

  pub item_of : (a b : ℕ) (xs : List X) (k : ℕ) (x : X) → Ascends R a b xs
      → slice_get xs k ≡ Some x → (n : ℕ) × R n x
  item_of a b [] k x h at = none x _ at
  item_of a b (y ∷ xs) zero x (n, le, r, more) at =
      (n, subst (λ (z : X). R n z) (same_Some y x at) r)
  item_of a b (y ∷ xs) (suc k) x (n, le, r, more) at = item_of (n + 1) b xs k x more at
