-- Counts of a list, and of records.
use Rattle.ps_reading.proofs.Vocabulary.{arith, ◌≡◌, ◌+◌, List, ◌∷◌, Bool, cond, count_by, sum_by-cons, is_private_reference, is_public_reference, is_unit_reference, privates_in, publics_in, units_in, Record}

pub one_more : {X : Type 0} (test : X → Bool) (x : X) (xs : List X)
    → count_by test (x ∷ xs) ≡ cond (test x) 1 0 + count_by test xs
one_more test x xs = sum_by-cons (λ y. cond (test y) 1 0) x xs

counted : {X : Type 0} (test : X → Bool) (x : X) (xs : List X) (b : Bool) → test x ≡ b
    → count_by test (x ∷ xs) ≡ cond b 1 0 + count_by test xs
counted test x xs b h = grind (arith, one_more)

module _ (r : Record) (rs : List Record) (b : Bool) where
  pub one_unit : is_unit_reference r.body ≡ b → units_in (r ∷ rs) ≡ cond b 1 0 + units_in rs
  one_unit h = counted (λ s. is_unit_reference s.body) r rs b h

  pub one_public : is_public_reference r.body ≡ b
      → publics_in (r ∷ rs) ≡ cond b 1 0 + publics_in rs
  one_public h = counted (λ s. is_public_reference s.body) r rs b h

  pub one_private : is_private_reference r.body ≡ b
      → privates_in (r ∷ rs) ≡ cond b 1 0 + privates_in rs
  one_private h = counted (λ s. is_private_reference s.body) r rs b h
