-- Items of an array, each with its index: what was added so far, and what is left of all.
use Rattle.ps_writing.proofs.Vocabulary.{flat_map, enumerate_from, drop_all, ◌≡◌, ℕ, ◌+◌, ◌≤◌, List, [], ◌∷◌, ◌++◌, length, drop, ap}

module _ {X : Type 0} (item_of : ℕ × X → List ℕ) (xs : List X) (i : ℕ) where
  -- the items from i on
  pub numbered_left : (x : X) → drop i xs ≡ x ∷ drop (i + 1) xs
      → flat_map item_of (enumerate_from i (drop i xs))
      ≡ item_of (i, x) ++ flat_map item_of (enumerate_from (i + 1) (drop (i + 1) xs))
  numbered_left x h = ap (λ ys. flat_map item_of (enumerate_from i ys)) h

  pub numbered_over : length xs ≤ i → flat_map item_of (enumerate_from i (drop i xs)) ≡ []
  numbered_over le = ap (λ ys. flat_map item_of (enumerate_from i ys)) (drop_all i xs le)
