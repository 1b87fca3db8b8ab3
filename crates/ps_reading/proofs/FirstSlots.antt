-- The first of several slots, from one of them on.
use Rattle.ps_reading.proofs.Vocabulary.{◌≡◌, ℕ, ◌+◌, ◌-◌, ◌<◌, List, [], ◌∷◌, Bool, Option, Some, None, Result, Ok, is_some, refl, arith, range_with_len, find, list_any, option_or, option_map, result_ok, first_of}

-- the numbers from i up to n are i and those after it
pub range_more : (i n : ℕ) → i < n → range_with_len i (n - i)
    ≡ i ∷ range_with_len (i + 1) (n - (i + 1))
range_more i n lt = grind arith

pub first_here : {Y : Type 0} (f : ℕ → Option Y) (i n : ℕ) (y : Y) → i < n
    → f i ≡ Some y → first_of f (range_with_len i (n - i)) ≡ Some y
first_here f i n y lt h = grind arith

pub first_later : {Y : Type 0} (f : ℕ → Option Y) (i n : ℕ) → i < n → f i ≡ None
    → first_of f (range_with_len i (n - i)) ≡ first_of f (range_with_len (i + 1) (n - (i + 1)))
first_later f i n lt h = grind arith

-- some number passes where a first one does
pub any_found : {X : Type 0} (p : X → Bool) (xs : List X)
    → list_any p xs ≡ is_some (find p xs)
any_found p [] = refl
any_found p (x ∷ xs) = grind (arith, any_found p xs)

-- what two searches one after the other do not find
pub or_none : {Y : Type 0} (a b : Option Y) → option_or a b ≡ None
    → (a ≡ None) × (b ≡ None)
or_none a b h = grind arith

pub neither_first : {Y : Type 0} (a b : Option Y) → option_or a b ≡ None → a ≡ None
neither_first a b h = (or_none a b h).0

pub neither_second : {Y : Type 0} (a b : Option Y) → option_or a b ≡ None → b ≡ None
neither_second a b h = (or_none a b h).1

pub none_mapped : {X Y : Type 0} (f : X → Y) (o : Option X) → option_map f o ≡ None
    → o ≡ None
none_mapped f o h = grind arith

-- what it is made of
pub some_mapped : {X Y : Type 0} (f : X → Y) (o : Option X) (y : Y) → option_map f o ≡ Some y
    → (x : X) × (o ≡ Some x) × (y ≡ f x)
some_mapped f o y h = grind arith

-- a result that gives a value is it
pub ok_is : {X E : Type 0} (o : Result X E) (x : X) → result_ok o ≡ Some x → o ≡ Ok x
ok_is o x e = grind arith
