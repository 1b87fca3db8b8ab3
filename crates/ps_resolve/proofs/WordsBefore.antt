-- The words of the privates of the first records of a segment, added up.
use Rattle.ps_resolve.proofs.Vocabulary.{◌≡◌, ℕ, suc, ◌+◌, ◌-◌, ◌<◌, ◌≤◌, List, ◌∷◌, take, arith, sum_by-cons, Record, words_taken, words_taken_by}

-- the words so far, and those of the first of the records that are left, of which the first has
-- index n, are those of the first of all
abbrev pub AddUp : List Record → ℕ → ℕ → ℕ → List Record → Type 0
AddUp all count words n rs = words + words_taken_by (take (count - n) rs)
    ≡ words_taken_by (take count all)

-- a record that counts is added
pub counted : (all : List Record) (count words n : ℕ) (r : Record) (rs : List Record)
    → AddUp all count words n (r ∷ rs) → n < count
    → AddUp all count (words + words_taken r.body) (n + 1) rs
counted all count words n r rs up lt =
    let more : count - n ≡ suc (count - (n + 1)) = omega (arith, lt) in
    let whole : words + words_taken_by (take (suc (count - (n + 1))) (r ∷ rs))
    ≡ words_taken_by (take count all) = grind arith in
    let first : words_taken_by (take (suc (count - (n + 1))) (r ∷ rs))
    ≡ words_taken r.body + words_taken_by (take (count - (n + 1)) rs) =
    sum_by-cons (λ (q : Record). words_taken q.body) r (take (count - (n + 1)) rs) in
    omega (arith, whole, first)

-- the words so far and those of the next record that counts are not more than all
pub within : (all : List Record) (count words n : ℕ) (r : Record) (rs : List Record)
    → AddUp all count words n (r ∷ rs) → n < count
    → words + words_taken r.body ≤ words_taken_by (take count all)
within all count words n r rs up lt = grind (arith, counted all count words n r rs up lt)
