-- Which of two keys is the smaller.
use Rattle.std.specs.Prelude.{◌≡◌, ◌⊎◌, ℕ, ◌<◌, List, [], ◌∷◌}

-- a has the smaller number at the first place where they differ
abbrev pub Before : List ℕ → List ℕ → Type 0
Before [] others = ⊥
Before (a ∷ rest) [] = ⊥
Before (a ∷ rest) (b ∷ others) = (a < b) ⊎ ((a ≡ b) × Before rest others)
