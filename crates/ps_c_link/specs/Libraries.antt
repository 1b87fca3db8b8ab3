-- The libraries of a call: one after another in one buffer, with their lengths beside.
use Rattle.std.specs.Prelude.{ℕ, List, [], ◌∷◌, take, drop}

-- the parts of these lengths, from the first byte on
abbrev pub split : List ℕ → List ℕ → List (List ℕ)
split bytes [] = []
split bytes (n ∷ ns) = take n bytes ∷ split (drop n bytes) ns
