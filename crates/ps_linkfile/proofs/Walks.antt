-- The text of a walk over the records of a segment, by the texts of a record and of a fault.
use Rattle.ps_linkfile.proofs.Vocabulary.{flat_map, enumerate_from, Reason, items_of, Record, ◌≡◌, ℕ, ◌+◌, List, [], ◌∷◌, ◌++◌, length, arith, append_assoc, append-nil, Option, Some, None, Result, Ok, Err}

module _ (of_record : ℕ × Record → List ℕ)
    (of_fault : ℕ → Option Reason → List ℕ) where
  -- the text of items, the first of which has the index rec
  abbrev pub walked : ℕ → List (Result Record Reason) → List ℕ
  walked rec [] = []
  walked rec (Ok r ∷ items) = of_record (rec, r) ++ walked (rec + 1) items
  walked rec (Err why ∷ items) = of_fault rec (Some why) ++ walked rec items

  -- the text of a reading's items is that of its records and of its fault
  pub walked_all : ((n : ℕ) → of_fault n None ≡ []) → (n : ℕ) (rs : List Record)
      (why : Option Reason) → walked n (items_of (rs, why))
      ≡ flat_map of_record (enumerate_from n rs) ++ of_fault (n + length rs) why
  walked_all none n [] None = grind (arith, none n)
  walked_all none n [] (Some why) = grind (arith, append-nil)
  walked_all none n (r ∷ rs) why = grind (arith, append_assoc, walked_all none (n + 1) rs why)

  module _ (n : ℕ) (i : Result Record Reason) (old items : List (Result Record Reason)) where
    -- the text of a record, and of the items after it
    pub record_next : (r : Record) → old ≡ i ∷ items → i ≡ Ok r
        → walked n old ≡ of_record (n, r) ++ walked (n + 1) items
    record_next r p q = rw (p, q)

    -- the text of a fault, and of the items after it
    pub fault_next : (why : Reason) → old ≡ i ∷ items → i ≡ Err why
        → walked n old ≡ of_fault n (Some why) ++ walked n items
    fault_next why p q = rw (p, q)
