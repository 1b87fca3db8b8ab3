-- The smallest of what applies, part by part.
use Rattle.ps_laws.proofs.Vocabulary.{◌⊎◌, if◌then◌else◌, Decides, range_with_len, enumerate_from, slice_get, filter_map, option_or, option_map, option_and_then, cases_lt, false≢true, Fault, Before, first_of, fault_if, Step, key, SomeBelow, SomeItem, ◌≡◌, ℕ, zero, suc, ◌+◌, ◌<◌, ◌≤◌, List, [], ◌∷◌, Option, Some, None, Bool, true, false, refl, sym, ap, subst, ◌∙◌, inl, inr, arith}

-- nothing applies, or this one does, and it is before each other one that applies
pub data Least {X : Type 0} (IsBefore : X → X → Type 0) (Stands : X → Type 0) : Option X
    → Type 0 where
  nothing : ((y : X) → Stands y → ⊥) → Least IsBefore Stands None
  this : (x : X) → Stands x → ((y : X) → Stands y → (y ≡ x) ⊎ IsBefore x y)
      → Least IsBefore Stands (Some x)

-- the first of two faults of one step has the smaller key
abbrev pub Precedes : Step → Fault → Fault → Type 0
Precedes step f g = Before (key step f) (key step g)

-- two keys are not each before the other
pub not_both : (a b : List ℕ) → Before a b → Before b a → ⊥
not_both [] b h k = h
not_both (x ∷ a) [] h k = h
not_both (x ∷ a) (y ∷ b) (inl h) (inl k) = omega (arith, h, k)
not_both (x ∷ a) (y ∷ b) (inl h) (inr k) = let e = k.0 in omega (arith, h, e)
not_both (x ∷ a) (y ∷ b) (inr h) (inl k) = let e = h.0 in omega (arith, e, k)
not_both (x ∷ a) (y ∷ b) (inr h) (inr k) = not_both a b h.1 k.1

-- is otherwise said
pub least_same : {X : Type 0} {B : X → X → Type 0} {S T : X → Type 0} {o : Option X}
    → ((x : X) → S x → T x) → ((x : X) → T x → S x) → Least B S o → Least B T o
least_same f g (nothing n) = nothing (λ y t. n y (g y t))
least_same f g (this x s l) = this x (f x s) (λ y t. l y (g y t))

-- nothing is where there is none
pub quiet : {X : Type 0} {B : X → X → Type 0} {S : X → Type 0} → Least B S None → (x : X)
    → S x → ⊥
quiet (nothing n) = n

-- what comes before, otherwise said
pub least_order : {X : Type 0} {B C : X → X → Type 0} {S : X → Type 0} {o : Option X}
    → ((x y : X) → S x → S y → B x y → C x y) → Least B S o → Least C S o
least_order f (nothing n) = nothing n
least_order f (this x s l) =
    this x s (λ y t. elim (l y t) [ inl e ↦ inl e | inr b ↦ inr (f x y s t b) ])

-- two parts, of which all of the first comes before all of the second
pub least_or : {X : Type 0} {B : X → X → Type 0} {S T : X → Type 0} {o p : Option X}
    → Least B S o → Least B T p → ((x y : X) → S x → T y → B x y)
    → Least B (λ x. S x ⊎ T x) (option_or o p)
least_or (nothing n) (nothing m) apart = nothing (λ y. elim [ inl s ↦ n y s | inr t ↦ m y t ])
least_or (nothing n) (this x t l) apart =
    this x (inr t) (λ y. elim [ inl s ↦ absurd (n y s) | inr u ↦ l y u ])
least_or (this x s l) p apart = this x (inl s)
    (λ y. elim [ inl u ↦ l y u | inr t ↦ inr (apart x y s t) ])

-- the least of two parts, where the second is only looked at if the first has nothing
pub least_or_then : {X : Type 0} {B : X → X → Type 0} {S T : X → Type 0} {o p : Option X}
    → Least B S o → (o ≡ None → Least B T p) → ((x y : X) → S x → T y → B x y)
    → Least B (λ x. S x ⊎ T x) (option_or o p)
least_or_then (nothing n) next apart = least_or (nothing n) (next refl) apart
least_or_then (this x s l) next apart = this x (inl s)
    (λ y. elim [ inl u ↦ l y u | inr t ↦ inr (apart x y s t) ])

-- one thing, where a test passes
pub least_if : {X : Type 0} {B : X → X → Type 0} {P : Type 0} (b : Bool) (x : X) → Decides b P
    → Least B (λ y. (y ≡ x) × P) (fault_if b x)
least_if true x d = this x (refl, d.0 refl) (λ y t. inl t.0)
least_if false x d = nothing (λ y t. false≢true (d.1 t.1))

-- the least, seen through h
pub least_map : {A X : Type 0} {B : X → X → Type 0} {S : A → Type 0} {o : Option A}
    (h : A → X) → Least (λ a b. B (h a) (h b)) S o
    → Least B (λ x. (a : A) × (x ≡ h a) × S a) (option_map h o)
least_map h (nothing n) = nothing (λ y t. n t.0 t.2)
least_map {B} h (this a s l) = this (h a) (a, refl, s)
    (λ y t. elim (l t.0 t.2) [
      | inl e ↦ inl (t.1 ∙ ap h e)
      | inr b ↦ inr (subst (λ z. B (h a) z) (sym t.1) b)
    ])

-- what applies only where there is an a
pub least_then : {A X : Type 0} {B : X → X → Type 0} {S : A → X → Type 0}
    (f : A → Option X) (o : Option A) → ((a : A) → o ≡ Some a → Least B (S a) (f a))
    → Least B (λ x. (a : A) × (o ≡ Some a) × S a x) (option_and_then f o)
least_then f None each = nothing (λ y t. absurd (let e = t.1 in cc))
least_then {S} f (Some a) each = grind (arith, least_same)

-- each number of a range, in order
pub least_within : {X : Type 0} {B : X → X → Type 0} {S : ℕ → X → Type 0} (f : ℕ
    → Option X) (n m : ℕ) → ((i : ℕ) → n ≤ i → i < n + m → Least B (S i) (f i))
    → ((i j : ℕ) (x y : X) → i < j → S i x → S j y → B x y) → Least B
    (λ x. (i : ℕ) × (n ≤ i) × (i < n + m) × S i x) (first_of f (range_with_len n m))
least_within f n zero each apart = nothing (λ y t. absurd (omega (arith, t.1, t.2)))
least_within {S} f n (suc m) each apart =
    least_same
    (λ x. elim [
      | inl s ↦ (n, omega arith, omega arith, s)
      | inr t ↦ (t.0, omega (arith, t.1), omega (arith, t.2), t.3)
    ])
    (λ x t. elim (cases_lt n t.0) [
      | inl h ↦ inr (t.0, omega (arith, h), omega (arith, t.2), t.3)
      | inr h ↦ inl (subst (λ i. S i x) (omega (arith, h, t.1)) t.3)
    ])
    (least_or (each n (omega arith) (omega arith))
    (least_within f (n + 1) m (λ i low high. each i (omega (arith, low)) (omega (arith, high)))
    apart) (λ x y s t. apart n t.0 x y (omega (arith, t.1)) s t.3))

-- each number below one, in order
pub least_below : {X : Type 0} {B : X → X → Type 0} {S : ℕ → X → Type 0}
    (f : ℕ → Option X) (n : ℕ) → ((i : ℕ) → i < n → Least B (S i) (f i))
    → ((i j : ℕ) (x y : X) → i < j → S i x → S j y → B x y)
    → Least B (λ x. SomeBelow n (λ i. S i x)) (first_of f (range_with_len 0 n))
least_below f n each apart = least_same (λ x t. (t.0, omega (arith, t.2), t.3))
    (λ x t. (let lt = t.1 in (t.0, omega arith, omega (arith, lt), t.2)))
    (least_within f 0 n (λ i low high. each i (omega (arith, high))) apart)

-- each item of a list with its number, in order
pub least_each : {A X : Type 0} {B : X → X → Type 0} {S : ℕ → A → X → Type 0}
    (f : ℕ × A → Option X) (n : ℕ) (items : List A) → ((i k : ℕ) (a : A)
    → k ≡ n + i → slice_get items i ≡ Some a → Least B (S k a) (f (k, a)))
    → ((i j : ℕ) (a b : A) (x y : X) → i < j → S i a x → S j b y → B x y)
    → Least B (λ x. (i : ℕ) × (k : ℕ) × (a : A) × (k ≡ n + i)
    × (slice_get items i ≡ Some a) × S k a x) (first_of f (enumerate_from n items))
least_each f n [] each apart = nothing (λ y t. absurd (let e = t.4 in cc))
least_each {A} {X} {S} f n (a ∷ items) each apart =
    least_same
    (λ x. elim [
      | inl s ↦ (zero, n, a, omega arith, refl, s)
      | inr t ↦ (suc t.0, t.1, t.2, omega (arith, t.3), t.4, t.5)
    ])
    back
    (least_or (each zero n a (omega arith) refl)
    (least_each f (n + 1) items (λ i k b e h. each (suc i) k b (omega (arith, e)) h) apart)
    (λ x y s t. apart n t.1 a t.2 x y (omega (arith, t.3)) s t.5))
  where
    go : (x : X) (i k : ℕ) (b : A) → k ≡ n + i → slice_get (a ∷ items) i ≡ Some b
        → S k b x → S n a x ⊎ ((i : ℕ) × (k : ℕ) × (c : A) × (k ≡ n + 1 + i)
        × (slice_get items i ≡ Some c) × S k c x)
    go x i k b h1 h2 h3 = grind arith

    back : (x : X) → ((i : ℕ) × (k : ℕ) × (b : A) × (k ≡ n + i)
        × (slice_get (a ∷ items) i ≡ Some b) × S k b x) → S n a x ⊎ ((i : ℕ)
        × (k : ℕ) × (c : A) × (k ≡ n + 1 + i) × (slice_get items i ≡ Some c) × S k c x)
    back x t = go x t.0 t.1 t.2 t.3 t.4 t.5

-- the least of a list of items, numbered from 0
pub least_items : {A X : Type 0} {B : X → X → Type 0} {S : ℕ → A → X → Type 0}
    (f : ℕ × A → Option X) (items : List A)
    → ((i : ℕ) (a : A) → slice_get items i ≡ Some a → Least B (S i a) (f (i, a)))
    → ((i j : ℕ) (a b : A) (x y : X) → i < j → S i a x → S j b y → B x y)
    → Least B (λ x. SomeItem items (λ i a. S i a x)) (first_of f (enumerate_from 0 items))
least_items {S} f items each apart =
    least_same (λ x t. (t.0, t.2, t.4, subst (λ k. S k t.2 x) (omega (arith, t.3)) t.5))
    (λ x t. (t.0, t.0, t.1, omega arith, t.2, t.3)) (least_each f 0 items (λ i k a e h. each k a
    (subst (λ j. slice_get items j ≡ Some a) (omega (arith, e)) h)) apart)

-- one fault, or two
pub at_apart : {X P Q : Type 0} (B : X → X → Type 0) (f g : X) → B f g → (x y : X)
    → (x ≡ f) × P → (y ≡ g) × Q → B x y
at_apart B f g h x y s t = grind arith

-- what applies only under a condition
pub least_guard : {X P : Type 0} {B : X → X → Type 0} {S : X → Type 0} {o : Option X}
    (b : Bool) → Decides b P → Least B S o → Least B (λ x. P × S x) (if b then o else None)
least_guard true d l = grind (arith, least_same)
least_guard false d l = nothing (λ x t. false≢true (d.1 t.0))

-- one thing, where a test passes, and else what comes after it
pub least_else : {X P : Type 0} {B : X → X → Type 0} {S : X → Type 0} {o : Option X}
    (b : Bool) (x : X) → Decides b P → Least B S o → ((y : X) → S y → B x y)
    → Least B (λ y. ((y ≡ x) × P) ⊎ S y) (if b then Some x else o)
least_else true x d l apart = this x (inl (refl, d.0 refl))
    (λ y. elim [ inl s ↦ inl s.0 | inr t ↦ inr (apart y t) ])
least_else false x d l apart = grind (arith, least_same, false≢true)

-- the first over the list of what all items give is the first over the items themselves
pub first_of_filter_map : {W X Y : Type 0} (f : X → Option Y) (g : W → Option X) (ws : List W)
    → first_of f (filter_map g ws) ≡ first_of (λ w. option_and_then f (g w)) ws
first_of_filter_map f g [] = refl
first_of_filter_map {W} {X} {Y} f g (w ∷ ws) = grind (arith, first_of_filter_map f g ws)
