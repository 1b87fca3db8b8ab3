-- The privates of all segments follow one another.
use Rattle.ps_resolve.proofs.Vocabulary.{◌≡◌, ℕ, zero, suc, ◌+◌, ◌++◌, List, [], ◌∷◌, take, ◌∙◌, arith, sum_by-cons, Record, Owner, allotted_privates, private_words, all_allotted, FollowOn, Private}

-- one more before
follow_cons : (next : ℕ) (p : Private) (ps : List Private) → p.offset ≡ next
    → FollowOn (next + p.words) ps → FollowOn next (p ∷ ps)
follow_cons next p ps e h zero d lt = omega (arith, e)
follow_cons next p ps e h (suc k) d lt =
    h k d (omega arith) ∙ (let s = sum_by-cons (λ (q : Private). q.words) p (take k ps) in
    omega (arith, s))

-- where privates follow on after the words of records, they do so with the privates of these before
-- them
prefixed : (slot : ℕ) (rs : List Record) (rec next : ℕ) (tail : List Private)
    → FollowOn (next + private_words rs) tail
    → FollowOn next (allotted_privates slot rec next rs ++ tail)
prefixed slot [] rec next tail h = grind arith
prefixed slot (r ∷ rs) rec next tail h = grind (arith, follow_cons, prefixed slot rs)

pub follow : (next : ℕ) (ss : List Owner) → FollowOn next (all_allotted next ss)
follow next [] = λ k d lt. absurd (omega arith)
follow next (s ∷ ss) = grind (arith, prefixed, follow (next + private_words s.1) ss)
