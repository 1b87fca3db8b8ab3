-- The first fault of the references is the smallest that is.
use Rattle.ps_laws.proofs.Vocabulary.{◌≢◌, ◌⊎◌, nat_le, nat_lt, Decides, range_with_len, enumerate_from, find, slice_get, list_any, flat_map, lookup, option_map, option_or, result_err, bytes_eq, false≢true, Decides-ltb, Decides-and, Decides-or, Decides-like, flat_map-append, bytes_eq-Decides, is_reserved, is_unit_reference, next_of, added_fault, private_words, Because, SomeBelow, SomeItem, OfReferences, part, private_offset, refs_of, Body, Record, Before, first_of, fault_if, Segment, host_records, units_of, target_in, target_of, words_taken, known_of, Target, in_record, Order, Reason, Fault, ◌≡◌, ℕ, ◌+◌, ◌<◌, ◌≤◌, List, [], ◌∷◌, ◌++◌, length, take, map, Option, Some, None, Result, Ok, Err, Bool, true, refl, sym, ap, subst, ◌∙◌, inl, inr, arith, append_assoc, append-nil, is_some, unwrap_or, segments, Defines, RecordHas, IsTooLarge, Covers, Meet, ReferenceHas, InReferences, UnitRef, PublRef, PrivRef, width_of, value_of, is_in, operands, refs_fault, Known, public_base, records_fault, none_mapped, some_mapped, in_reference}
use Rattle.std.proofs.lemmas.List.{map-append}
use Rattle.std.proofs.lemmas.List.Folds.{list_any-append}
use Rattle.ps_words.specs.Words.{displacement_at}
use Rattle.ps_linkinfo.specs.Operands.{operand_width}
use Rattle.ps_resolve.specs.References.{unit_slot}
use Rattle.ps_resolve.specs.Symbols.{definitions, definition_of}
use Rattle.ps_resolve.specs.Faults.{in_segment, references_fault_from, references_fault}
use Rattle.ps_resolve.specs.declared.definitions.Def.{Def}
use Rattle.ps_resolve.specs.declared.definitions.DefKind.{DefKind}
use Rattle.ps_resolve.specs.declared.definitions.DefKind.TheVariants.{Public, Constant}
use Rattle.ps_resolve.specs.declared.references.Target.TheVariants.{Base}
use Rattle.ps_laws.proofs.Least.{Least, nothing, this, Precedes, least_same, least_or, least_if, least_items}
use Rattle.ps_laws.proofs.RequestedUnits.{HasUnit, units_named, requested_is_there}
use Rattle.ps_laws.proofs.Steps.{Ranked, because, because_apart, any_of_range}
use Rattle.ps_laws.proofs.Looking.{is_there, of_test, any_of_take, any_of_items, find_none, find_some}
use Rattle.ps_laws.proofs.Segments.{over_segments, ascend}
use Rattle.ps_laws.proofs.Definitions.{take_prefix, longer}
use Rattle.ps_laws.proofs.PrivateOffsets.{carried as all_carried}
use Rattle.ps_laws.proofs.Privates.{more_words}
use Rattle.ps_laws.proofs.Sources.{at_most}
use Rattle.ps_words.specs.declared.fault.Reason.TheVariants as reason
use Rattle.ps_words.specs.declared.words.TheConstants.{MAX_OPERAND}

module _ {A C : Type 0} (test : C → Bool) where
  -- tests of lists that are made of others
  any_map : (f : A → C) (xs : List A)
      → list_any test (map f xs) ≡ list_any (λ x. test (f x)) xs
  any_map f [] = refl
  any_map f (x ∷ xs) = grind (arith, any_map f xs)

  any_flat : (f : A → List C) (xs : List A)
      → list_any test (flat_map f xs) ≡ list_any (λ x. list_any test (f x)) xs
  any_flat f [] = refl
  any_flat f (x ∷ xs) = grind (arith, list_any-append, any_flat f xs)

map_or : {A C : Type 0} (f : A → C) (o p : Option A)
    → option_map f (option_or o p) ≡ option_or (option_map f o) (option_map f p)
map_or f o p = grind arith

map_map : {A C D : Type 0} (f : C → D) (g : A → C) (o : Option A)
    → option_map f (option_map g o) ≡ option_map (λ a. f (g a)) o
map_map f g o = grind arith

-- 1. the record's name
-- what is looked up is what the first item of the key has
lookup_found : {D : Type 0} (test : List ℕ → Bool) (ds : List (List ℕ × D)) → lookup test
    ds ≡ option_map (λ (e : List ℕ × D). e.1) (find (λ (e : List ℕ × D). test e.0) ds)
lookup_found test [] = refl
lookup_found {D} test (d ∷ ds) = grind (arith, lookup_found test ds)

is_name : {D : Type 0} (name : List ℕ) (e : List ℕ × D)
    → Decides (bytes_eq name e.0) (e.0 ≡ name)
is_name name e = grind (arith, bytes_eq-Decides)

named_none : {D : Type 0} (name : List ℕ) (ds : List (List ℕ × D))
    → lookup (bytes_eq name) ds ≡ None → SomeItem ds (λ k e. e.0 ≡ name) → ⊥
named_none {D} name ds e = find_none (λ (d : List ℕ × D). bytes_eq name d.0) (λ d. d.0
    ≡ name) (is_name name) ds (none_mapped _ _ (sym (lookup_found (bytes_eq name) ds) ∙ e))

abbrev Earliest : {D : Type 0} → List (List ℕ × D) → List ℕ → ℕ → Type 0
Earliest {D} ds name k = (lesser : ℕ) (other : List ℕ × D) → lesser < k
    → slice_get ds lesser ≡ Some other → other.0 ≢ name

-- what is found for a name is what the first item of that name has
pub named_some : {D : Type 0} (name : List ℕ) (ds : List (List ℕ × D)) (d : D)
    → lookup (bytes_eq name) ds ≡ Some d
    → SomeItem ds (λ k e. ((e.0 ≡ name) × (e.1 ≡ d)) × Earliest ds name k)
named_some {D} name ds d e =
    let f = some_mapped (λ (x : List ℕ × D). x.1) _ d (sym (lookup_found _ ds) ∙ e) in
    let t = find_some (λ (x : List ℕ × D). bytes_eq name x.0) (λ x. x.0 ≡ name) (is_name
    name) ds f.0 f.1 in
    (t.0, t.1, t.2, ((t.3.1, ap (λ (x : List ℕ × D). x.1) t.3.0 ∙ sym f.2), t.3.2))

-- a name has no two first definitions
one_definition : (ds : List (List ℕ × Def)) (name : List ℕ) (d e : Def) → Defines ds name d
    → Defines ds name e → d ≡ e
one_definition ds name d e a b = grind arith

-- each unit that the record requests has its segment
abbrev UnitIsThere : List Segment → List ℕ → Body → Type 0
UnitIsThere segs name body = is_unit_reference body ≡ true → HasUnit segs name

-- the reason that is given for a record is the one of smallest rank that applies, where a unit it
-- requests is there
pub record_rows : (segs : List Segment) (off : ℕ) (name : List ℕ) (body : Body)
    → UnitIsThere segs name body → Least Ranked (RecordHas segs name body)
    (result_err (target_in (known_of segs) off name body))
record_rows segs off name (UnitRef refs) there =
    let slot = is_there (lookup (bytes_eq name) (units_of segs))
    (λ e. false≢true (sym (ap is_some e) ∙ (units_named name segs).1 (there refl))) in
    rw slot.1 (nothing (λ y h. h))
record_rows segs off name (PublRef refs) there = go (definition_of name ds) refl
  where
    ds : List (List ℕ × Def)
    ds = definitions (host_records segs)

    any : (d : Def) → Defines ds name d → SomeItem ds (λ k e. e.0 ≡ name)
    any d t = (t.0, t.1, t.2, t.3.0.0)

    go : (o : Option Def) → definition_of name ds ≡ o
        → Least Ranked (RecordHas segs name (PublRef refs)) (result_err (public_base o))
    go None e = grind (arith, this, named_none)
    go (Some d) e = at d.kind refl
      where
        found : Defines ds name d
        found = named_some name ds d e

        at : (k : DefKind) → d.kind ≡ k → Least Ranked (RecordHas segs name (PublRef refs))
            (result_err (elim k [ Public ↦ Ok (Base d.value) | Constant ↦ Err reason.IllKind ]))
        at Constant is = grind (arith, this, found, any)
        at Public is = nothing (λ y h. none y h)
          where
            none : (y : Reason) → RecordHas segs name (PublRef refs) y → ⊥
            none y h = grind (arith, any, found, one_definition)
record_rows segs off name other there = nothing (λ y h. h)

-- 2. the operands
abbrev operands_of : Record → List (ℕ × ℕ)
operands_of q = map (λ (y : ℕ). (y, operand_width q.body)) (refs_of q.body)

-- the operands of the records before, and those of the record's own references before
abbrev before : List Record → ℕ → List (ℕ × ℕ)
before records rec = flat_map operands_of (take rec records)

abbrev own : Body → ℕ → List (ℕ × ℕ)
own body i = map (λ (y : ℕ). (y, operand_width body)) (take i (refs_of body))

in_operand : (p y w : ℕ) → Decides (is_in p (y, w)) ((y ≤ p) × (p < y + w))
in_operand p y w = Decides-and (nat_le y p) (nat_lt p (y + w)) (at_most y p) (Decides-ltb p (y + w))

abbrev BeforeCovers : List Record → ℕ → ℕ → Type 0
BeforeCovers records rec p = SomeBelow rec
    (λ o. (q : Record) × (slice_get records o ≡ Some q)
    × SomeItem (refs_of q.body) (λ j y. Covers q.body y p))

abbrev SameRecordCovers : Body → ℕ → ℕ → Type 0
SameRecordCovers body i p =
    SomeBelow i (λ j. (y : ℕ) × (slice_get (refs_of body) j ≡ Some y) × Covers body y p)

-- the test of the operands before says whether one of an earlier record, or of the record's own
-- earlier references, covers the place
taken_covers : (records : List Record) (rec i : ℕ) (body : Body) (p : ℕ)
    → Decides (list_any (is_in p) (before records rec ++ own body i))
    (BeforeCovers records rec p ⊎ SameRecordCovers body i p)
taken_covers records rec i body p =
    simp (list_any-append, any_flat, any_map) (Decides-or _ _ (any_of_take _ _ (λ q. any_of_items _
    _ (λ y. in_operand p y _) _) rec records) (any_of_take _ _ (λ y. in_operand p y _) i _))

abbrev overlaps : List Record → ℕ → ℕ → Body → ℕ → Bool
overlaps records rec i body x = list_any
    (λ p. list_any (is_in p) (before records rec ++ own body i))
    (range_with_len x (operand_width body))

abbrev Overlaps : List Record → ℕ → ℕ → Record → ℕ → Type 0
Overlaps records rec i r x = SomeItem records
    (λ lesser q. SomeItem (refs_of q.body)
    (λ j y. Before (lesser ∷ j ∷ []) (rec ∷ i ∷ []) × Meet r.body x q.body y))

-- the test of an operand for an overlap says whether it meets that of an earlier reference of the
-- segment
overlapping : (records : List Record) (rec i : ℕ) (r : Record) (x : ℕ) → slice_get records rec
    ≡ Some r → Decides (overlaps records rec i r.body x) (Overlaps records rec i r x)
overlapping records rec i r x er = Decides-like _ (λ t. to t.0 t.1 t.2 t.3) (λ t. from t.0 t.1 t.2
    t.3.0 t.3.1 t.3.2 t.3.3.0 t.3.3.1.0 t.3.3.1.1 t.3.3.1.2) (any_of_range (λ p. list_any (is_in p)
    _) (λ p. BeforeCovers records rec p ⊎ SameRecordCovers r.body i p) (λ p. taken_covers
    records rec i r.body p) x _)
  where
    to : (p : ℕ) → x ≤ p → p < x + operand_width r.body → BeforeCovers records rec p
        ⊎ SameRecordCovers r.body i p → Overlaps records rec i r x
    to p low high (inl t) =
        (t.0, t.2.0, t.2.1, (t.2.2.0, t.2.2.1, t.2.2.2, (inl t.1, (p, (low, high), t.2.2.3))))
    to p low high (inr t) =
        (rec, r, er, (t.0, t.2.0, t.2.1, (inr (refl, inl t.1), (p, (low, high), t.2.2))))

    from : (o : ℕ) (q : Record) → slice_get records o ≡ Some q → (j y : ℕ)
        → slice_get (refs_of q.body) j ≡ Some y → Before (o ∷ j ∷ []) (rec ∷ i ∷ [])
        → (p : ℕ) → Covers r.body x p → Covers q.body y p → (p : ℕ) × (x ≤ p) × (p
        < x + operand_width r.body) × (BeforeCovers records rec p ⊎ SameRecordCovers r.body i p)
    from o q a j y g (inl h) p cx cy = (p, cx.0, cx.1, inl (o, h, (q, a, (j, y, g, cy))))
    from o q a j y g (inr t) p cx cy =
        let same : q ≡ r = (let d = t.0 in cc) in
        elim t.1 [
          | inl h ↦ (let at = rw same at g in let on = rw same at cy in
              (p, cx.0, cx.1, inr (j, h, (y, at, on))))
          | inr u ↦ absurd u.1
        ]

-- the operand of a reference has at least one byte
pub wide : (body : Body) (i x : ℕ) → slice_get (refs_of body) i ≡ Some x
    → 0 < operand_width body
wide body i x h = grind arith

-- an operand that is not empty ends after the code just where it covers a place that is not in the
-- code
past : (len x w : ℕ) → 0 < w → Decides (nat_lt len (x + w))
    ((p : ℕ) × ((x ≤ p) × (p < x + w)) × (len ≤ p))
past len x w h = grind arith

-- why there is no operand of so many bytes at x that becomes v, where these are taken
abbrev reason_with : (ℕ → Bool) → List ℕ → List (ℕ × ℕ) → ℕ → ℕ → ℕ
    → Option Reason
reason_with reserved code taken w v x =
    option_or (fault_if (nat_lt (length code) (x + w)) reason.OutsideCode)
    (option_or (fault_if (list_any reserved (range_with_len x w)) reason.ReservedPlace)
    (option_or (fault_if (list_any (λ p. list_any (is_in p) taken) (range_with_len x w))
    reason.Overlap)
    (fault_if (nat_lt MAX_OPERAND v) reason.OperandTooLarge)))

-- what an operand at x becomes by a target; 0 where there is none
abbrev value_by : List ℕ → ℕ → Result Target Reason → ℕ
value_by code x (Err why) = 0
value_by code x (Ok t) = value_of code t x

-- what the operand at x of a record becomes
abbrev operand_value : List Segment → Segment → ℕ → List ℕ → Body → ℕ → ℕ
operand_value segs s rec name body x = value_by s.code x
    (target_in (known_of segs) (private_offset segs s.slot rec) name body)

-- an operand of one byte is never too large
one_byte : (code : List ℕ) (x : ℕ) (slot : Option ℕ)
    → Decides (nat_lt MAX_OPERAND (value_by code x (unit_slot slot))) ⊥
one_byte code x None = (λ u. absurd (false≢true u), λ t. absurd t)
one_byte code x (Some slot) = (λ u. absurd (false≢true u), λ t. absurd t)

-- the test of what an operand becomes says whether that is too large
too_large : (segs : List Segment) (s : Segment) (rec : ℕ) (name : List ℕ) (body : Body)
    (x : ℕ) → Decides (nat_lt MAX_OPERAND (operand_value segs s rec name body x))
    (IsTooLarge segs s rec name body x)
too_large segs s rec name (PublRef refs) x = go (definition_of name ds) refl
  where
    ds : List (List ℕ × Def)
    ds = definitions (host_records segs)

    Large : Type 0
    Large = IsTooLarge segs s rec name (PublRef refs) x

    go : (o : Option Def) → definition_of name ds ≡ o
        → Decides (nat_lt MAX_OPERAND (value_by s.code x (public_base o))) Large
    go None e = (
      λ u. absurd (false≢true u),
      λ t. absurd (named_none name ds e (t.1.0, t.1.1, t.1.2, t.1.3.0.0)),
    )
    go (Some d) e = at d.kind refl
      where
        found : Defines ds name d
        found = named_some name ds d e

        at : (k : DefKind) → d.kind ≡ k → Decides (nat_lt MAX_OPERAND (value_by s.code x
            (elim k [ Public ↦ Ok (Base d.value) | Constant ↦ Err reason.IllKind ]))) Large
        at Public is = Decides-like _ (λ h. (d, found, is, h))
            (λ t. subst (λ (q : Def). MAX_OPERAND < displacement_at s.code x + q.value)
            (one_definition ds name t.0 d t.1 found) t.3)
            (Decides-ltb MAX_OPERAND _)
        at Constant is = (
          λ u. absurd (false≢true u),
          λ t. absurd (let same = one_definition ds name t.0 d t.1 found in cc),
        )
too_large segs s rec name (UnitRef refs) x =
    one_byte s.code x (lookup (bytes_eq name) (units_of segs))
too_large segs s rec name (PrivRef words refs) x = Decides-ltb MAX_OPERAND _
too_large segs s rec name other x = (λ u. absurd (false≢true u), λ t. absurd t)

abbrev reason_at : Order → List Segment → Segment → ℕ → Record → ℕ × ℕ
    → Option Reason
reason_at order segs s rec r ref = reason_with (is_reserved order s.code) s.code
    (before s.records rec ++ own r.body ref.0) (operand_width r.body)
    (operand_value segs s rec r.name r.body ref.1) ref.1

-- the reason that is given for a reference is the one of smallest rank that applies
reference_rows : (order : Order) (segs : List Segment) (s : Segment) (rec : ℕ) (r : Record)
    (i x : ℕ) → slice_get s.records rec ≡ Some r → slice_get (refs_of r.body) i ≡ Some x
    → Least Ranked (ReferenceHas order segs s rec r i x) (reason_at order segs s rec r (i, x))
reference_rows order segs s rec r i x er ex = least_same to from (least_or (least_if _ _ (past _ _ _
    (wide r.body i x ex))) (least_or (least_if _ _ reserved) (least_or (least_if _ _ (overlapping
    s.records rec i r x er)) (least_if _ _ (too_large segs s rec r.name r.body x))
    (λ y z a b. grind arith)) (λ y z a b. grind arith)) (λ y z a b. grind arith))
  where
    Has : Reason → Type 0
    Has = ReferenceHas order segs s rec r i x

    Parts : Reason → Type 0
    Parts y = ((y ≡ reason.OutsideCode) × Has reason.OutsideCode)
        ⊎ (((y ≡ reason.ReservedPlace) × Has reason.ReservedPlace) ⊎ (((y ≡ reason.Overlap)
        × Has reason.Overlap) ⊎ ((y ≡ reason.OperandTooLarge) × Has reason.OperandTooLarge)))

    reserved : Decides (list_any (is_reserved order s.code)
        (range_with_len x (operand_width r.body))) (Has reason.ReservedPlace)
    reserved = grind (arith, any_of_range, of_test)

    to : (y : Reason) → Parts y → Has y
    to y h = grind arith

    from : (y : Reason) → Has y → Parts y
    from y h = grind arith

-- the places of a record's faults
abbrev At : ℕ → ℕ → Fault → Type 0
At slot rec f = (unwrap_or f.slot f.file ≡ slot) × (part f.rec ≡ rec + 1)

-- what applies to a record: a fault of the record itself, or of one of its references
abbrev RecordFaults : Order → List Segment → Segment → ℕ → Record → Fault → Type 0
RecordFaults order segs s rec r f =
    Because (in_record s.file s.slot rec) (RecordHas segs r.name r.body) f
    ⊎ SomeItem (refs_of r.body) (λ i x. Because (in_reference s.file s.slot rec i)
    (ReferenceHas order segs s rec r i x) f)

at_record : (order : Order) (segs : List Segment) (s : Segment) (rec : ℕ) (r : Record) (f : Fault)
    → RecordFaults order segs s rec r f → At s.slot rec f
at_record order segs s rec r f h = grind arith

abbrev references_of : Order → List Segment → Segment → ℕ → Record → ℕ × ℕ
    → Option Fault
references_of order segs s rec r ref = option_map (in_reference s.file s.slot rec ref.0)
    (reason_at order segs s rec r ref)

-- the first fault of a record: of the record itself, and then of its references, one after another
abbrev record_fault : Order → List Segment → Segment → ℕ × Record → Option Fault
record_fault order segs s r =
    option_or (option_map (in_record s.file s.slot r.0)
    (result_err (target_of (known_of segs) (private_offset segs s.slot r.0) r.1)))
    (first_of (references_of order segs s r.0 r.1) (enumerate_from 0 (refs_of r.1.body)))

module _ (order : Order) (segs : List Segment) (s : Segment) (rec : ℕ) (r : Record) where
  -- the first fault of a record and its references is the smallest that applies, where a unit it
  -- requests is there
  of_record : slice_get s.records rec ≡ Some r → UnitIsThere segs r.name r.body → Least
      (Precedes OfReferences) (RecordFaults order segs s rec r) (record_fault order segs s (rec, r))
  of_record er there = least_or (because OfReferences _ (λ a b h. grind arith) (record_rows segs _
      r.name r.body there)) (least_items _ _ (λ i x ex. because OfReferences _ (λ a b h. grind
      arith) (reference_rows order segs s rec r i x er ex)) (λ i j a b x y h. because_apart
      OfReferences _ _ (λ q p. grind arith) x y)) (λ x y a t. because_apart OfReferences _ _
      (λ q p. grind arith) x y a t.3)

  -- 3. the search that carries the operands and the offset so far is the one that looks back
  refs_carried : (t : Target) → width_of t ≡ operand_width r.body
      → ((x : ℕ) → value_of s.code t x ≡ operand_value segs s rec r.name r.body x)
      → (done xs : List ℕ) (i : ℕ) → refs_of r.body ≡ done ++ xs → i ≡ length done
      → option_map (λ (f : ℕ × Reason). in_reference s.file s.slot rec f.0 f.1)
      (refs_fault (is_reserved order s.code) s.code t i
      (before s.records rec ++ map (λ (y : ℕ). (y, operand_width r.body)) done) xs)
      ≡ first_of (references_of order segs s rec r) (enumerate_from i xs)
  refs_carried t w v done [] i is at = refl
  refs_carried t w v done (x ∷ xs) i is at =
      let later = refs_carried t w v (done ++ x ∷ []) xs (i + 1) in
      grind (arith, map_or, map_map, append_assoc, longer, take_prefix, map-append, later)

-- what a record's references become has its width and its value
abbrev Fits : List Segment → Segment → ℕ → List ℕ → Body → Target → Type 0
Fits segs s rec name body t = (refs_of body ≡ [])
    ⊎ ((width_of t ≡ operand_width body)
    × ((x : ℕ) → value_of s.code t x ≡ operand_value segs s rec name body x))

-- where a record has a target, its operands have the width and the value that are said of them
fits : (segs : List Segment) (s : Segment) (rec : ℕ) (name : List ℕ) (body : Body) (t : Target)
    → target_in (known_of segs) (private_offset segs s.slot rec) name body ≡ Ok t
    → Fits segs s rec name body t
fits segs s rec name body t h = grind arith

-- the references of a record
refs_of_record : (order : Order) (segs : List Segment) (s : Segment) (rec : ℕ) (r : Record)
    (t : Target) (taken : List (ℕ × ℕ)) → taken ≡ before s.records rec → Fits segs s rec
    r.name r.body t → option_map (λ (f : ℕ × Reason). in_reference s.file s.slot rec f.0 f.1)
    (refs_fault (is_reserved order s.code) s.code t 0 taken (refs_of r.body))
    ≡ first_of (references_of order segs s rec r) (enumerate_from 0 (refs_of r.body))
refs_of_record order segs s rec r t taken is (inl none) = grind arith
refs_of_record order segs s rec r t taken is (inr fit) =
    let own = refs_carried order segs s rec r t fit.0 fit.1 [] (refs_of r.body) 0 refl refl in
    grind (arith, append-nil, own, is)

operands_are : (segs : List Segment) (s : Segment) (rec : ℕ) (r : Record) (t : Target)
    → Fits segs s rec r.name r.body t → operands t (refs_of r.body) ≡ operands_of r
operands_are segs s rec r t h = grind arith

-- the search that carries the operands and the offset through a segment's records finds the first
-- fault of these
carried : (order : Order) (segs : List Segment) (s : Segment) (base : ℕ)
    → ((n : ℕ) → private_offset segs s.slot n ≡ base + private_words (take n s.records))
    → (prefix rs : List Record) (rec : ℕ) → s.records ≡ prefix ++ rs
    → rec ≡ length prefix → option_map (in_segment s.file s.slot) (records_fault
    (known_of segs) (is_reserved order s.code) s.code rec (private_offset segs s.slot rec) (flat_map
    operands_of prefix) rs) ≡ first_of (record_fault order segs s) (enumerate_from rec rs)
carried order segs s base offsets prefix [] rec is at = refl
carried order segs s base offsets prefix (r ∷ rs) rec is at = go (target_of known free r) refl
    (carried order segs s base offsets (prefix ++ r ∷ []) rs (rec + 1) (is
    ∙ sym (append_assoc prefix (r ∷ []) rs)) (let l = longer prefix r in omega (arith, l, at)))
  where
    known : Known
    known = known_of segs

    free : ℕ
    free = private_offset segs s.slot rec

    R : ℕ → Bool
    R = is_reserved order s.code

    taken : List (ℕ × ℕ)
    taken = flat_map operands_of prefix

    prefix_is : take rec s.records ≡ prefix
    prefix_is = grind (arith, take_prefix)

    more_is : take (rec + 1) s.records ≡ prefix ++ r ∷ []
    more_is = ap (λ records. take (rec + 1) records) (is ∙ sym (append_assoc prefix
        (r ∷ []) rs)) ∙ (ap (λ n. take n ((prefix ++ r ∷ []) ++ rs)) (let l =
        longer prefix r in omega (arith, l, at)) ∙ take_prefix (prefix ++ r ∷ []) rs)

    next_free : private_offset segs s.slot (rec + 1) ≡ free + words_taken r.body
    next_free = grind (arith, more_is, prefix_is, more_words)

    Later : Type 0
    Later = option_map (in_segment s.file s.slot) (records_fault known R s.code (rec + 1)
        (private_offset segs s.slot (rec + 1)) (flat_map operands_of (prefix ++ r ∷ [])) rs)
        ≡ first_of (record_fault order segs s) (enumerate_from (rec + 1) rs)

    go : (o : Result Target Reason) → target_of known free r ≡ o → Later → option_map
        (in_segment s.file s.slot) (records_fault known R s.code rec free taken (r ∷ rs))
        ≡ option_or (record_fault order segs s (rec, r))
        (first_of (record_fault order segs s) (enumerate_from (rec + 1) rs))
    go (Err why) e later = rw (e, records_fault) refl
    go (Ok t) e later =
        let fit = fits segs s rec r.name r.body t e in
        let refs = refs_of_record order segs s rec r t taken
        (ap (λ records. flat_map operands_of records) (sym prefix_is)) fit in
        let ops = operands_are segs s rec r t fit in
        let all = flat_map-append operands_of prefix (r ∷ []) in
        grind (arith, map_or, map_map, refs, ops, all, append-nil, next_free, later)

abbrev all_records : Order → List Segment → Segment → Option Fault
all_records order segs s = first_of (record_fault order segs s) (enumerate_from 0 s.records)

-- where the rounds have no fault, so that each unit that is requested has its segment
pub step_10 : (order : Order) (host : List ℕ) (libs : List (List ℕ))
    → added_fault order host libs ≡ None → Least (Precedes OfReferences)
    (InReferences order host libs) (references_fault order (segments order host libs))
unfolding references_fault
step_10 order host libs fine =
    let segs = segments order host libs in
    let e : references_fault_from order (known_of segs) (next_of (host_records segs)) segs
    ≡ first_of (all_records order segs) segs = all_carried segs (λ n ss. references_fault_from
    order (known_of segs) n ss ≡ first_of (all_records order segs) ss) (λ n. refl)
    (λ s rest n offsets later. (let own = carried order segs s n offsets [] s.records 0 refl refl
    in let first = offsets 0 in grind (arith, own, first, later))) (ascend order host libs) in
    rw e (over_segments
    {S = λ s f. SomeItem s.records (λ rec r. RecordFaults order segs s rec r f)} order host libs _
    (λ s is. least_items _ s.records (λ rec r e. of_record order segs s rec r e
    (requested_is_there order host libs fine s is rec r e)) (λ i j a b x y h m n.
    (let p = at_record order segs s i a x m in let q = at_record order segs s j b y n in
    grind (arith, p, q)))) (λ s t x y h m n. (let p = at_record order segs s m.0 m.1 x m.3 in
    let q = at_record order segs t n.0 n.1 y n.3 in grind (arith, p, q))))
