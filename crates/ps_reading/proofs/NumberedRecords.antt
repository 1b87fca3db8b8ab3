-- What a walk over records and their indices has left.
use Rattle.ps_reading.proofs.Vocabulary.{◌≡◌, ℕ, ◌+◌, List, [], ◌∷◌, length, sym, ◌∙◌, ap, arith, some_pair_parts, Record}
use Rattle.ps_linkinfo.specs.Numbered.{numbered_records}

-- these records are left, of which the first has this index, and of them this holds
abbrev pub IsLeft : (ℕ → List Record → Type 0) → List (ℕ × Record) → Type 0
IsLeft P left = (n : ℕ) × (rs : List Record) × (left ≡ numbered_records n rs) × P n rs

-- a record was given, and the others are left
pub one : {P : ℕ → List Record → Type 0} {left more : List (ℕ × Record)} {i : ℕ}
    {r : Record} → IsLeft P left → left ≡ (i, r) ∷ more
    → (rest : List Record) × (more ≡ numbered_records (i + 1) rest) × P i (r ∷ rest)
one {P} {left} {more} {i} {r} h k = at h.0 h.1 (sym h.2 ∙ k) h.3
  where
    at : (n : ℕ) (rs : List Record) → numbered_records n rs ≡ (i, r) ∷ more → P n rs
        → (rest : List Record) × (more ≡ numbered_records (i + 1) rest) × P i (r ∷ rest)
    at n [] e p = absurd (omega (arith, ap length e))
    at n (s ∷ rest) e p =
        let same = some_pair_parts n i s r (cc) in
        let behind : numbered_records (n + 1) rest ≡ more = cc in
        grind arith

-- none is left
pub none : {P : ℕ → List Record → Type 0} {left : List (ℕ × Record)} → IsLeft P left
    → left ≡ [] → (n : ℕ) × P n []
none {P} {left} h k = at h.0 h.1 (sym h.2 ∙ k) h.3
  where
    at : (n : ℕ) (rs : List Record) → numbered_records n rs ≡ [] → P n rs
        → (n : ℕ) × P n []
    at n [] e p = (n, p)
    at n (s ∷ rest) e p = absurd (omega (arith, ap length e))
