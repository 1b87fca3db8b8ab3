-- What the references of records become, of which it is known.
use Rattle.ps_resolve.proofs.Vocabulary.{◌≡◌, ◌∙◌, ℕ, ◌+◌, ◌++◌, List, [], ◌∷◌, length, Bool, true, false, None, Result, Ok, Err, refl, sym, arith, nil_from_length, All-nil, All-cons, All-head, All-tail, sum_by-cons, Reason, refs_of, is_private_reference, privates_in, references_in, Body, Record, operands, Known, HasTarget, HaveTargets, target_in, target_of, words_taken, records_fault, Target}
use Rattle.ps_reading.proofs.RecordCounts.{one_private}
use Rattle.ps_reading.proofs.FirstSlots.{neither_second}
use Rattle.ps_resolve.proofs.NextRecords.{NoLinks, record_by, record_stands, edits_more}
use Rattle.ps_resolve.proofs.LookingBack.{words_before}

-- what a record's references become is known with any offset, where it is with one
rebased : (known : Known) (off other : ℕ) (r : Record) (t : Target)
    → target_of known off r ≡ Ok t → (u : Target) × (target_of known other r ≡ Ok u)
rebased known off other r t h = at r.body refl
  where
    kept : (b : Body) → r.body ≡ b → target_in known other r.name b
        ≡ target_in known off r.name b → (u : Target) × (target_of known other r ≡ Ok u)
    kept b e same = (
      t,
      grind arith,
    )

    at : (b : Body) → r.body ≡ b → (u : Target) × (target_of known other r ≡ Ok u)
    at b e = grind (arith, kept)

-- where no record has a fault, it is known of each what its references become
pub have_targets : (known : Known) (R : ℕ → Bool) (code : List ℕ) (rs : List Record)
    (n off : ℕ) (os : List (ℕ × ℕ)) → records_fault known R code n off os rs ≡ None
    → HaveTargets known rs
have_targets known R code [] n off os h = All-nil (HasTarget known)
have_targets known R code (r ∷ rs) n off os h =
    at (λ m free ps k. have_targets known R code rs m free ps k) (target_of known off r) refl
  where
    at : ((m free : ℕ) (ps : List (ℕ × ℕ))
        → records_fault known R code m free ps rs ≡ None → HaveTargets known rs)
        → (o : Result Target Reason) → target_of known off r ≡ o
        → HaveTargets known (r ∷ rs)
    at rest (Err why) e = cc
    at rest (Ok t) e =
        let behind = neither_second _ _ (sym (record_by known R code n off os r rs t e) ∙ h) in
        All-cons (HasTarget known) r rs (rebased known off 0 r t e)
        (rest (n + 1) (off + words_taken r.body) (os ++ operands t (refs_of r.body)) behind)

-- a record that does not request a private takes no words
no_words : (b : Body) → is_private_reference b ≡ false → words_taken b ≡ 0
no_words b h = grind arith

-- where none of them has a reference or requests a private, there is no edit, no fault and no word
pub no_references : (known : Known) (R : ℕ → Bool) (code : List ℕ) (rs : List Record)
    (n off : ℕ) (os : List (ℕ × ℕ)) → HaveTargets known rs → references_in rs ≡ 0
    → privates_in rs ≡ 0 → NoLinks known R code n off os rs
no_references known R code [] n off os named none unrequested = grind arith
no_references known R code (r ∷ rs) n off os named none unrequested =
    at (λ m free ps h k. no_references known R code rs m free ps
    (All-tail (HasTarget known) r rs named) h k) (is_private_reference r.body) refl
  where
    counted : references_in (r ∷ rs) ≡ length (refs_of r.body) + references_in rs
    counted = sum_by-cons (λ (s : Record). length (refs_of s.body)) r rs

    passed : (t : Target) → target_of known off r ≡ Ok t → refs_of r.body ≡ []
        → words_taken r.body ≡ 0 → ((m free : ℕ) (ps : List (ℕ × ℕ))
        → NoLinks known R code m free ps rs) → NoLinks known R code n off os (r ∷ rs)
    passed t e empty words rest = grind (
      arith,
      edits_more known R code n off os r rs,
      record_stands known R code n off os r rs t e,
      words_before r rs,
    )

    at : ((m free : ℕ) (ps : List (ℕ × ℕ)) → references_in rs ≡ 0
        → privates_in rs ≡ 0 → NoLinks known R code m free ps rs) → (b : Bool)
        → is_private_reference r.body ≡ b → NoLinks known R code n off os (r ∷ rs)
    at rest true e = let a = one_private r rs true e in absurd (omega arith)
    at rest false e =
        let a = one_private r rs false e in
        let head = All-head (HasTarget known) r rs named in
        let empty : refs_of r.body ≡ [] =
        nil_from_length (refs_of r.body) (omega (arith, counted)) in
        grind (arith, no_words, counted, passed)
