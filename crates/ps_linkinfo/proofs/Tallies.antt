-- What records come to, one by one.
use Rattle.ps_linkinfo.proofs.Vocabulary.{◌≡◌, ℕ, ◌+◌, ◌*◌, ◌≤◌, List, [], ◌∷◌, ◌++◌, length, false, ◌∙◌, ap, arith, zero-add, unwrap_or, AllByRecursion, sum_by-append, is_eof, refs_of, used_by, references_in, next_in, next_of, Record}
use Rattle.ps_linkinfo.proofs.Spelled.{used_cons}
use Rattle.ps_linkinfo.proofs.Steps.{size_least}

pub few_records : (rs : List Record) → 16 * length rs ≤ used_by rs
few_records [] = omega arith
few_records (r ∷ rs) = omega (arith, used_cons r rs, size_least r, few_records rs)

refs_cons : (r : Record) (rs : List Record)
    → references_in (r ∷ rs) ≡ length (refs_of r.body) + references_in rs
refs_cons r rs = sum_by-append (λ s. length (refs_of s.body)) (r ∷ []) rs
    ∙ ap (λ (n : ℕ). n + references_in rs) (zero-add (length (refs_of r.body)))

pub few_references : (rs : List Record) → 2 * references_in rs ≤ used_by rs
few_references [] = omega arith
few_references (r ∷ rs) = omega (arith, used_cons r rs, refs_cons r rs, few_references rs)

-- the value of the end of one record more, after records that go on
pub next_more : (rs : List Record) (r : Record) → AllByRecursion (λ r. is_eof r ≡ false) rs
    → next_of (rs ++ r ∷ []) ≡ unwrap_or (next_in r.body) (next_of rs)
next_more [] r h = grind arith
next_more (x ∷ rs) r h = grind (arith, next_more rs r h.1)
