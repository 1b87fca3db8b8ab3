-- The record with an index, of records that are given one by one with their indices.
use Rattle.ps_linkinfo.proofs.Vocabulary.{◌≡◌, ℕ, ◌+◌, ◌-◌, ◌≤◌, List, [], ◌∷◌, length, Some, None, sym, ◌∙◌, ap, arith, slice_get, numbered_records, Record}
use Rattle.std.proofs.lemmas.Option.{some_pair_parts}

-- the record with index `rec` is among those that are left
pub record IsAhead (all : List Record) (rec : ℕ) (left : List (ℕ × Record)) : Type 0 where
  pub index : ℕ
  pub rest : List Record
  pub numbered : left ≡ numbered_records index rest
  pub low : index ≤ rec
  pub same : slice_get all rec ≡ slice_get rest (rec - index)

-- the first of the records that are left is that with its index, and the others are after it
split : (n : ℕ) (rs : List Record) (i : ℕ) (r : Record) (more : List (ℕ × Record))
    → numbered_records n rs ≡ (i, r) ∷ more
    → (rest : List Record) × (rs ≡ r ∷ rest) × (n ≡ i)
    × (more ≡ numbered_records (n + 1) rest)
split n [] i r more e = absurd (omega (arith, ap length e))
split n (s ∷ rest) i r more e = grind (arith, some_pair_parts)

pub found : (all : List Record) (rec i : ℕ) (r : Record) (left more : List (ℕ × Record))
    → IsAhead all rec left → left ≡ (i, r) ∷ more → i ≡ rec
    → slice_get all rec ≡ Some r
found all rec i r left more ahead is at = grind (arith, split)

pub passed : (all : List Record) (rec i : ℕ) (r : Record) (left more : List (ℕ × Record))
    → IsAhead all rec left → left ≡ (i, r) ∷ more → (i ≡ rec → ⊥)
    → IsAhead all rec more
passed all rec i r left more ahead is other = grind (arith, split)

pub missing : (all : List Record) (rec : ℕ) (left : List (ℕ × Record)) → IsAhead all rec left
    → left ≡ [] → slice_get all rec ≡ None
missing all rec left ahead is = at ahead.index ahead.rest (sym ahead.numbered ∙ is) ahead.same
  where
    at : (n : ℕ) (rs : List Record) → numbered_records n rs ≡ []
        → slice_get all rec ≡ slice_get rs (rec - n) → slice_get all rec ≡ None
    at n [] e same = same
    at n (s ∷ rest) e same = absurd (omega (arith, ap length e))
