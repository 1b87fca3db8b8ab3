-- One record more of a segment.
use Rattle.ps_resolve.proofs.Vocabulary.{◌≡◌, ℕ, ◌+◌, ◌++◌, List, [], ◌∷◌, map, Bool, true, false, Some, None, Ok, Err, refl, ap, subst, append_assoc, arith, IsPermutation, option_map, option_or, IsPermutation-trans, IsPermutation-append_left, refs_of, is_private_reference, is_public_reference, is_unit_reference, privates_in, publics_in, units_requested, private_words, Body, Record, Reason, Edit, in_reference, is_reserved, ProcedureTables, in_segment, edit_of, operands, refs_fault, AreTaken, IsTableOf, edits_of, PlaceState, IsStop, Known, words_taken, target_in, target_of, records_fault, records_edits, Target, Stop}
use Rattle.ps_linkinfo.specs.declared.record.Body.TheVariants.{UnitRef, PublRef, PrivRef}
use Rattle.ps_resolve.specs.declared.references.Target.TheVariants.{Slot}
use Rattle.ps_reading.proofs.RecordCounts.{one_private, one_public, one_unit}
use Rattle.ps_resolve.proofs.LookingBack.{words_before}

module _ (known : Known) (R : ℕ → Bool) (code : List ℕ) (rec off : ℕ)
    (os : List (ℕ × ℕ)) (r : Record) (rs : List Record) where
  pub record_refused : (why : Reason) → target_of known off r ≡ Err why
      → records_fault known R code rec off os (r ∷ rs) ≡ Some (rec, (None, why))
  record_refused why h = rw (h, records_fault) refl

  -- where a reference of the record has a fault, that is the first of all
  pub references_refused : (file slot : ℕ) (t : Target) (stop : Stop)
      → target_of known off r ≡ Ok t
      → IsStop ⊥ (option_map (λ f. in_reference file slot rec f.0 f.1)
      (refs_fault R code t 0 os (refs_of r.body))) stop
      → IsStop ⊥ (option_map (in_segment file slot)
      (records_fault known R code rec off os (r ∷ rs))) stop
  references_refused file slot t stop h k = grind arith

  pub record_by : (t : Target) → target_of known off r ≡ Ok t
      → records_fault known R code rec off os (r ∷ rs)
      ≡ option_or (option_map (λ f. (rec, (Some f.0, f.1)))
      (refs_fault R code t 0 os (refs_of r.body)))
      (records_fault known R code (rec + 1) (off + words_taken r.body)
      (os ++ operands t (refs_of r.body)) rs)
  record_by t h = rw (h, records_fault) refl

  pub record_stands : (t : Target) → target_of known off r ≡ Ok t
      → refs_fault R code t 0 os (refs_of r.body) ≡ None
      → records_fault known R code rec off os (r ∷ rs)
      ≡ records_fault known R code (rec + 1) (off + words_taken r.body)
      (os ++ operands t (refs_of r.body)) rs
  record_stands t h k = rw (h, records_fault) (rw k refl)

  pub edits_more : (es : List Edit) (t : Target) → target_of known off r ≡ Ok t
      → es ++ records_edits known code off (r ∷ rs)
      ≡ (es ++ map (edit_of code t) (refs_of r.body))
      ++ records_edits known code (off + words_taken r.body) rs
  edits_more es t h = grind (arith, append_assoc)

  -- the edits of the record, put in
  pub listed_more : (all : List Edit) (ts us : List PlaceState) (t : Target)
      → target_of known off r ≡ Ok t
      → IsPermutation all (edits_of ts ++ records_edits known code off (r ∷ rs))
      → IsPermutation (edits_of ts ++ map (edit_of code t) (refs_of r.body)) (edits_of us)
      → IsPermutation all (edits_of us ++ records_edits known code (off + words_taken r.body) rs)
  listed_more all ts us t h listed put =
      let rest : List Edit = records_edits known code (off + words_taken r.body) rs in
      let so_far : List Edit = edits_of ts ++ map (edit_of code t) (refs_of r.body) in
      IsPermutation-trans all (so_far ++ rest) (edits_of us ++ rest)
      (subst (λ (es : List Edit). IsPermutation all es) (edits_more (edits_of ts) t h) listed)
      (IsPermutation-append_left rest so_far (edits_of us) put)

-- With this table of edits, what the records from this index on come to is what all come to, the
-- first of whose privates has the offset `free`: their edits, their first fault, and their words.
pub record Links (known : Known) (tables : ProcedureTables) (free : ℕ) (all : List Record)
    (old : List Edit) (next : ℕ) (edits : List PlaceState) (n : ℕ) (rs : List Record) : Type 0
  where
    pub table : IsTableOf tables.code edits
    pub listed : IsPermutation (old ++ records_edits known tables.code free all)
        (edits_of edits ++ records_edits known tables.code next rs)
    pub first : (os : List (ℕ × ℕ)) × AreTaken tables edits os
        × (records_fault known (is_reserved tables.order tables.code) tables.code n next os rs
        ≡ records_fault known (is_reserved tables.order tables.code) tables.code 0 free [] all)
    pub words : next + private_words rs ≡ free + private_words all

-- where no record requests anything, there is no edit, no fault and no word
pub record NoLinks (known : Known) (R : ℕ → Bool) (code : List ℕ) (n off : ℕ)
    (os : List (ℕ × ℕ)) (rs : List Record) : Type 0 where
  pub edits : records_edits known code off rs ≡ []
  pub first : records_fault known R code n off os rs ≡ None
  pub words : private_words rs ≡ 0

module _ (known : Known) (R : ℕ → Bool) (code : List ℕ) where
  passed : (n off : ℕ) (os : List (ℕ × ℕ)) (r : Record) (rs : List Record)
      → target_of known off r ≡ Ok (Slot 0) → refs_of r.body ≡ []
      → words_taken r.body ≡ 0
      → ((m free : ℕ) (ps : List (ℕ × ℕ)) → NoLinks known R code m free ps rs)
      → NoLinks known R code n off os (r ∷ rs)
  passed n off os r rs t none words rest =
      let next = rest (n + 1) (off + words_taken r.body) (os ++ operands (Slot 0) (refs_of r.body))
      in grind (arith, edits_more, words_before)

  pub no_links : (rs : List Record) (n off : ℕ) (os : List (ℕ × ℕ))
      → units_requested rs ≡ 0
      → publics_in rs ≡ 0 → privates_in rs ≡ 0 → NoLinks known R code n off os rs
  no_links [] n off os u p q = grind arith
  no_links (r ∷ rs) n off os u p q = at
      (λ uu pp qq m free ps. no_links rs m free ps uu pp qq) r.body refl
    where
      skips : (units_requested rs ≡ 0 → publics_in rs ≡ 0 → privates_in rs ≡ 0
          → (m free : ℕ) (ps : List (ℕ × ℕ)) → NoLinks known R code m free ps rs)
          → is_unit_reference r.body ≡ false → is_public_reference r.body ≡ false
          → is_private_reference r.body ≡ false
          → target_of known off r ≡ Ok (Slot 0) → refs_of r.body ≡ []
          → words_taken r.body ≡ 0 → NoLinks known R code n off os (r ∷ rs)
      skips rest a b c t none words =
          let x = one_unit r rs false a in
          let y = one_public r rs false b in
          let z = one_private r rs false c in
          passed n off os r rs t none words (rest (omega arith) (omega arith) (omega arith))

      at : (units_requested rs ≡ 0 → publics_in rs ≡ 0 → privates_in rs ≡ 0
          → (m free : ℕ) (ps : List (ℕ × ℕ)) → NoLinks known R code m free ps rs)
          → (b : Body) → r.body ≡ b → NoLinks known R code n off os (r ∷ rs)
      at rest (UnitRef refs) e = let x = one_unit r rs true (ap is_unit_reference e) in
          absurd (omega arith)
      at rest (PublRef refs) e = let x = one_public r rs true (ap is_public_reference e) in
          absurd (omega arith)
      at rest (PrivRef words refs) e = let x = one_private r rs true (ap is_private_reference e) in
          absurd (omega arith)
      at rest other e = skips rest (ap is_unit_reference e) (ap is_public_reference e)
          (ap is_private_reference e) (ap (target_in known off r.name) e) (ap refs_of e)
          (ap words_taken e)
