-- The first that a search of a list gives.
use Rattle.std.proofs.Common.{◌≡◌, ◌∙◌, ℕ, zero, suc, true, List, [], ◌∷◌, Option, Some, refl, inl, inr, arith}
use Rattle.std.specs.Prelude.{is_some, slice_get}
use Rattle.ps_resolve.specs.Searches.{first_of}
use Rattle.ps_lists.proofs.Items.{cases, none}

pub found_in : {X Y : Type 0} (f : X → Option Y) (xs : List X) (y : Y) → first_of f xs ≡ Some y
    → (k : ℕ) × (z : X) × (slice_get xs k ≡ Some z) × (f z ≡ Some y)
found_in f [] y h = none y _ h
found_in f (x ∷ xs) y h = elim (cases (f x)) [
  | inl e ↦ (let m = found_in f xs y (rw e at h) in (suc m.0, m.1, m.2, m.3))
  | inr (w, e) ↦ (zero, x, refl, e ∙ (rw e at h))
]

pub each_in : {X Y : Type 0} (f : X → Option Y) (xs : List X) (k : ℕ) (x : X)
    → slice_get xs k ≡ Some x → is_some (f x) ≡ true → is_some (first_of f xs) ≡ true
each_in f [] k x at s = none x _ at
each_in f (z ∷ xs) zero x at s = grind arith
each_in f (z ∷ xs) (suc k) x at s = grind (arith, each_in f xs k x at s)
