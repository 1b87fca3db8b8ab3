-- Searches for the first fault in a list of things that are looked at one after another.
use Rattle.std.specs.Prelude.{List, [], ◌∷◌, Bool, true, false, Option, Some, None}
use Rattle.std.specs.Option.{option_or}

-- the first that f gives
abbrev pub first_of : {X Y : Type 0} → (X → Option Y) → List X → Option Y
first_of f [] = None
first_of f (x ∷ xs) = option_or (f x) (first_of f xs)

-- this fault, where the test says that it is
abbrev pub fault_if : {X : Type 0} → Bool → X → Option X
fault_if true x = Some x
fault_if false x = None
