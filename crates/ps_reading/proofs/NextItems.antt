-- The items of a list, one by one.
use Rattle.ps_reading.proofs.Vocabulary.{◌≡◌, ℕ, ◌+◌, ◌<◌, ◌++◌, List, [], ◌∷◌, length, map, get_or, drop, arith, drop-cons, append_assoc, map-append, take, length_push, take_at}

-- the item at i
pub drop_at : {X : Type 0} (xs : List X) (i : ℕ) (x : X) → i < length xs → x ≡ get_or xs i x
    → drop i xs ≡ x ∷ drop (i + 1) xs
drop_at {X} xs i x lt is = grind (arith, drop-cons)

-- f of the items of a list with one more
pub map_push : {X Y : Type 0} (f : X → Y) (xs : List X) (x : X) (ys : List Y)
    → map f (xs ++ x ∷ []) ++ ys ≡ map f xs ++ f x ∷ ys
map_push {X} {Y} f xs x ys = grind (arith, map-append, append_assoc)

-- a prefix of a list
pub take_prefix : {A : Type 0} (prefix rest : List A)
    → take (length prefix) (prefix ++ rest) ≡ prefix
take_prefix prefix rest = grind (arith, take_at)

pub longer : {A : Type 0} (prefix : List A) (a : A)
    → length (prefix ++ a ∷ []) ≡ length prefix + 1
longer prefix a = length_push prefix a
