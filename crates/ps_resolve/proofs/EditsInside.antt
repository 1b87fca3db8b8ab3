-- Where no fault applies each reference's edit lies in the code and can be stored.
use Rattle.ps_resolve.proofs.Vocabulary.{◌≡◌, ℕ, ◌+◌, ◌++◌, List, [], ◌∷◌, length, map, Bool, Some, None, Result, Ok, Err, refl, sym, ◌∙◌, arith, All, option_map, ltb-false, All-nil, All-cons, All-append, IsInside, Reason, refs_of, Record, operands, width_of, refs_fault, edit_of, Known, words_taken, target_of, records_fault, record_edits, records_edits, Target}
use Rattle.ps_reading.proofs.FirstSlots.{or_none, none_mapped}
use Rattle.ps_resolve.proofs.NextRecords.{record_refused, record_by}

-- where no reference of a record has a fault, the edits of them lie in the code and can be stored
refs_inside : (R : ℕ → Bool) (code : List ℕ) (t : Target) (xs : List ℕ) (i : ℕ)
    (os : List (ℕ × ℕ)) → refs_fault R code t i os xs ≡ None
    → All (IsInside (length code)) (map (edit_of code t) xs)
refs_inside R code t [] i os h = All-nil (IsInside (length code))
refs_inside R code t (x ∷ xs) i os h = grind (
  arith,
  or_none,
  All-cons,
  ltb-false,
  none_mapped,
  refs_inside R code t xs (i + 1) (os ++ (x, width_of t) ∷ []),
)

-- where no record has a fault, the edits of all their references lie in the code and can be stored
pub records_inside : (known : Known) (R : ℕ → Bool) (code : List ℕ) (rs : List Record)
    (rec off : ℕ) (os : List (ℕ × ℕ)) → records_fault known R code rec off os rs ≡ None
    → All (IsInside (length code)) (records_edits known code off rs)
records_inside known R code [] rec off os h = All-nil (IsInside (length code))
records_inside known R code (r ∷ rs) rec off os h =
    at (target_of known off r) refl (λ qs e. records_inside known R code rs (rec + 1)
    (off + words_taken r.body) qs e)
  where
    at : (a : Result Target Reason) → target_of known off r ≡ a
        → ((qs : List (ℕ × ℕ)) → records_fault known R code (rec + 1)
        (off + words_taken r.body) qs rs ≡ None
        → All (IsInside (length code)) (records_edits known code (off + words_taken r.body) rs))
        → All (IsInside (length code)) (records_edits known code off (r ∷ rs))
    at (Err why) k again = let bad = record_refused known R code rec off os r rs why k in cc
    at (Ok t) k again =
        let e = or_none (option_map (λ f. (rec, (Some f.0, f.1)))
        (refs_fault R code t 0 os (refs_of r.body)))
        (records_fault known R code (rec + 1) (off + words_taken r.body)
        (os ++ operands t (refs_of r.body)) rs)
        (sym (record_by known R code rec off os r rs t k) ∙ h) in
        rw (k, record_edits) (All-append (IsInside (length code))
        (map (edit_of code t) (refs_of r.body))
        (records_edits known code (off + words_taken r.body) rs)
        (refs_inside R code t (refs_of r.body) 0 os (none_mapped _ _ e.0))
        (again (os ++ operands t (refs_of r.body)) e.1))
