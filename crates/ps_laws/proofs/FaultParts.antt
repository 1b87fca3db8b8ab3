-- A fault that applies has just the parts of its number.
use Rattle.ps_laws.proofs.Vocabulary.{UnitReference, in_slot, in_record, Order, Fault, Reason, role_of, code_of, entry_at, EntryFault, CodeFault, InRound, Step, OfSlots, OfSources, OfAdded, Entry, Role, is_host, file_at, ◌≡◌, ℕ, List, length, Some, Ok, Err, Bool, ap, sym, subst, ◌∙◌, inl, inr, arith, SlotHas, TablesHave, InSources, IsRequested, StandsIn, bad}
use Rattle.ps_codefile.specs.declared.entry.Role.TheVariants as role
use Rattle.ps_words.specs.declared.fault.Reason.TheVariants as reason
use Rattle.ps_resolve.specs.FaultParts.{HasItsParts, WantsMissing}

module _ (P : Reason → Type 0) where
  -- the reasons for which a slot has no role, an entry no code, and a record is refused
  pub role_reason : P reason.SegmentProcedure → P reason.NativeSegment → P reason.Intrinsic
      → P reason.UnknownKind → (e : Entry) (why : Reason) → role_of e ≡ Err why → P why
  role_reason a b c d e why h = grind arith

  pub code_reason : P reason.BadLength → P reason.BadAddress → P reason.Truncated
      → (file : List ℕ) (e : Entry) (why : Reason) → code_of file e ≡ Err why → P why
  code_reason a b c file e why h = grind arith

  pub record_reason : P reason.RecordsTruncated → P reason.UnknownRecord → P reason.NativeRecord
      → P reason.SeparateRecord → P reason.BadFormat → (order : Order)
      (bytes : List ℕ) (why : Reason) → bad order bytes ≡ Some why → P why
  record_reason a b c d e order bytes why h = grind arith

-- the slot of a record that requests a unit does not want one that no library has
module _ (order : Order) (host : List ℕ) (libs : List (List ℕ))
    (not_wanted : (k : ℕ) (g : UnitReference) → IsRequested order host libs k g
    → WantsMissing order host libs g.at.segment.slot → ⊥) where
  abbrev Told : Fault → Type 0
  Told f = HasItsParts order host libs f

  of_role : (slot : ℕ) (e : Entry) (why : Reason) → role_of e ≡ Err why
      → Told (in_slot 0 slot why)
  of_role slot = role_reason (λ why. Told (in_slot 0 slot why)) (grind arith) (grind arith)
      (grind arith) (grind arith)

  of_slot : (order : Order) (host : List ℕ) (slot : ℕ) (why : Reason)
      → SlotHas order host slot why → Told (in_slot 0 slot why)
  of_slot order host slot reason.TwoHosts h = grind arith
  of_slot order host slot reason.DoubledSegment h = grind arith
  of_slot order host slot other h = of_role slot (entry_at order host slot) other h

  bad_code : (file : List ℕ) (k slot : ℕ) (e : Entry) (why : Reason)
      → code_of file e ≡ Err why → Told (in_slot k slot why)
  bad_code file k slot = code_reason (λ why. Told (in_slot k slot why)) (grind arith) (grind arith)
      (grind arith) file

  bad_record : (order : Order) (bytes : List ℕ) (k slot rec : ℕ) (why : Reason)
      → bad order bytes ≡ Some why → Told (in_record k slot rec why)
  bad_record order bytes k slot rec = record_reason (λ why. Told (in_record k slot rec why))
      (grind arith) (grind arith) (grind arith) (grind arith) (grind arith) order bytes

  of_tables : (order : Order) (code : List ℕ) (host : Bool) (k slot : ℕ) (why : Reason)
      → TablesHave order code host why → Told (in_slot k slot why)
  of_tables order code host k slot why h = grind arith

  of_code : (order : Order) (file : List ℕ) (k : ℕ) (e : Entry) (slot : ℕ) (role : Role)
      (f : Fault) → CodeFault order file k e slot role f → Told f
  of_code order file k e slot role f (inl t) = subst Told (sym t.1) (bad_code file k slot e t.0 t.2)
  of_code order file k e slot role f (inr t) = elim t.2.1 [
    | inl b ↦ subst Told (sym b.1) (of_tables order t.0 (is_host role) k slot b.0 b.2)
    | inr r ↦ subst Told (sym r.2) (bad_record order _ k slot (length r.0) r.1 r.3.stops)
  ]

  of_entries : (order : Order) (name : List ℕ) (libs : List (List ℕ)) (slot : ℕ) (f : Fault)
      → EntryFault order name libs slot f → Told f
  of_entries order name libs slot f t = grind arith

  missing_requested : (file slot rec : ℕ) → (WantsMissing order host libs slot → ⊥)
      → Told (in_record file slot rec reason.MissingUnit)
  missing_requested file slot rec unwanted = grind arith

  missing_wanted : (slot : ℕ) → WantsMissing order host libs slot
      → Told (in_slot 0 slot reason.MissingUnit)
  missing_wanted slot wants = grind arith

  in_sources : (f : Fault) → InSources order host libs f → Told f
  in_sources f t = elim t.2.2 [
    | inl (wanted, inl m) ↦ subst Told (sym m.0)
        (missing_wanted t.0 (t.2.1 ∙ ap Ok wanted, m.1))
    | inl (wanted, inr entries) ↦ of_entries order
        (entry_at order host t.0).name libs t.0 f entries
    | inr c ↦ of_code order (file_at host libs c.0.0) c.0.0
        (entry_at order (file_at host libs c.0.0) c.0.1) t.0 t.2.0 f c.2
  ]

  in_round : (k : ℕ) (f : Fault) → InRound order host libs k f → Told f
  in_round k f t = elim t.2 [
    | inl m ↦ subst Told (sym m.0)
        (missing_requested t.0.at.segment.file t.0.at.segment.slot t.0.at.rec
        (not_wanted k t.0 t.1))
    | inr (inl n) ↦ grind arith
    | inr (inr (slot, left, inl e)) ↦ of_entries order t.0.name libs slot f e
    | inr (inr (slot, left, inr c)) ↦ of_code order (file_at host libs c.0.0) c.0.0
        (entry_at order (file_at host libs c.0.0) c.0.1) slot role.Wanted f c.2
  ]

  -- a fault that applies in any step has just the parts of its number
  pub parts : (step : Step) (f : Fault) → StandsIn step order host libs f → Told f
  parts OfSlots f h = grind (arith, of_slot)
  parts OfSources f h = in_sources f h
  parts (OfAdded k) f h = in_round k f h
  parts other f h = grind arith
