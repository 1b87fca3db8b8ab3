-- The hash of the names of the records that are left.
use Rattle.ps_linkinfo.proofs.Vocabulary.{◌≡◌, ℕ, ◌+◌, List, [], ◌∷◌, Bool, true, false, if◌then◌else◌, refl, ap, fold, declares_name, with_declared_name, numbered_records, Record}
use Rattle.std.specs.Hash.DefaultHasher as sip
use Rattle.std.specs.declared.hash.DefaultHasher.{DefaultHasher}

-- the state that has hashed the names of the records that are left, too
abbrev pub with_left : DefaultHasher → List (ℕ × Record) → DefaultHasher
with_left s [] = s
with_left s (p ∷ ps) = with_left (with_declared_name s p.1) ps

-- all are left
pub all_left : (rs : List Record) (n : ℕ) (s : DefaultHasher)
    → with_left s (numbered_records n rs) ≡ fold with_declared_name s rs
all_left [] n s = refl
all_left (r ∷ rs) n s = all_left rs (n + 1) (with_declared_name s r)

-- a record whose name is hashed, and one whose name is not
pub taken : (s : DefaultHasher) (r : Record) → declares_name r ≡ true
    → with_declared_name s r ≡ sip.write s r.name
taken s r h = ap (λ (b : Bool). if b then sip.write s r.name else s) h

pub passed : (s : DefaultHasher) (r : Record) → declares_name r ≡ false
    → with_declared_name s r ≡ s
passed s r h = ap (λ (b : Bool). if b then sip.write s r.name else s) h
