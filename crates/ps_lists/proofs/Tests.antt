-- Tests that all items of a list pass, and lists that are made item by item.
use Rattle.std.proofs.Common.{◌≡◌, ◌++◌, ◌∷◌, ◌+◌, ◌<◌, [], ℕ, List, Bool, true, false, suc, zero, append-nil, arith, cond, get_or, length, map, not, refl, take}
use Rattle.std.specs.List.{before_first, flat_map, list_all, position_or_len}
use Rattle.std.proofs.lemmas.Bool.{and_parts}
use Rattle.std.proofs.lemmas.Grind.{flat_map-append}
use Rattle.std.proofs.lemmas.List.{map-append, take_all, take_more}
use Rattle.std.proofs.lemmas.List.Folds.{list_all-append}

-- a test that each item of two lists passes is passed by each of both
pub all_append : {X : Type 0} (p : X → Bool) (xs ys : List X) → list_all p xs ≡ true
    → list_all p ys ≡ true → list_all p (xs ++ ys) ≡ true
all_append p xs ys h k = rw (list_all-append, h, k) refl

pub all_flat_map : {X Y : Type 0} (p : Y → Bool) (f : X → List Y)
    → ((x : X) → list_all p (f x) ≡ true) → (xs : List X) → list_all p (flat_map f xs) ≡ true
all_flat_map p f each [] = refl
all_flat_map p f each (x ∷ xs) =
    all_append p (f x) (flat_map f xs) (each x) (all_flat_map p f each xs)

-- a test that each item of a list passes, and the default too, is passed by the item at any index
pub all_at : {X : Type 0} (p : X → Bool) (xs : List X) (n : ℕ) (d : X) → p d ≡ true
    → list_all p xs ≡ true → p (get_or xs n d) ≡ true
all_at p [] n d default all = default
all_at p (x ∷ xs) zero d default all = (and_parts _ _ all).0
all_at p (x ∷ xs) (suc n) d default all = all_at p xs n d default (and_parts _ _ all).1

-- nothing before the first item that passes a test passes it, and nothing at all where none does
pub none_before : {X : Type 0} (p : X → Bool) (xs : List X)
    → list_all (λ x. not (p x)) (before_first p xs) ≡ true
none_before p [] = refl
none_before p (x ∷ xs) = by (p x) refl (none_before p xs)
  where
    by : (t : Bool) → p x ≡ t → list_all (λ y. not (p y)) (before_first p xs) ≡ true
        → list_all (λ y. not (p y)) (take (cond (not t) (1 + position_or_len p xs) 0) (x ∷ xs))
        ≡ true
    by true e more = refl
    by false e more = let on : 1 + position_or_len p xs ≡ suc (position_or_len p xs) = omega arith
        in rw (on, e) more

pub none_passes : {X : Type 0} (p : X → Bool) (xs : List X) → position_or_len p xs ≡ length xs
    → list_all (λ x. not (p x)) xs ≡ true
none_passes p xs h = let all : take (length xs) xs ≡ xs = take_all (length xs) xs (omega arith) in
    rw (h, all) at (none_before p xs)

-- what is made of one item more
pub flat_map_more : {W X Y : Type 0} (f : X → List Y) (g : W → X) (ws : List W) (i : ℕ) (w : W)
    → i < length ws → w ≡ get_or ws i w
    → flat_map f (map g (take (i + 1) ws)) ≡ flat_map f (map g (take i ws)) ++ f (g w)
flat_map_more f g ws i w lt is =
    rw (take_more ws i w lt, ← is, map-append, flat_map-append, append-nil) refl
