-- Each unit that a record of the link requests has its segment there, where the rounds end without
-- a fault.
use Rattle.ps_laws.proofs.Vocabulary.{◌⊎◌, if◌then◌else◌, ◌&&◌, ◌==◌, Decides, slice_get, list_any, find, lookup, bytes_eq, enumerate_from, filter_map, Decides-at, Decides-and, Decides-like, Decides-eqb, bytes_eq-Decides, slots, is_unit_reference, unit_references, all_unit_references, requested_from, added_segments, added_fault, SomeItem, IsSegment, Record, is_role, is_unit, is_empty, Segment, own_segment, units_of, UnitReference, Order, rules, ◌≡◌, ℕ, zero, suc, ◌+◌, ◌<◌, ◌≤◌, List, [], ◌∷◌, ◌++◌, Option, Some, None, Bool, true, refl, sym, ap, subst, ◌∙◌, inl, inr, arith, is_some, or_cases, at_slot, own_units, references_of, in_empty, name_placed, queue_of, FIRST_ADDED, MAX_ADDED, SLOTS}
use Rattle.ps_resolve.specs.Added.{is_already_known, empty_slots, requested_units, segment_at, segments}
use Rattle.ps_resolve.specs.Sources.{own_segments}
use Rattle.ps_laws.proofs.Looking.{is_there, of_test, any_of_items, find_none}
use Rattle.ps_lists.proofs.Items.{In, all_in, not_apart, in_left, in_right, in_flat, in_filter_map, in_numbered, of_filter_map, in_range, of_range, of_filter, filter_ascends}
use Rattle.ps_laws.proofs.Segments.{found_in_slot}
use Rattle.ps_resolve.proofs.KnownNames.{grown, known_last, known_longer}

-- the name of each reference is known in the queue that they come to
pub all_known : (units : List (List ℕ × ℕ)) (queue gs : List UnitReference) (g : UnitReference)
    (i : ℕ) → slice_get gs i ≡ Some g
    → is_already_known units (requested_from units queue gs) g.name ≡ true
all_known units queue [] g i e = absurd (cc)
all_known units queue (h ∷ gs) g zero e =
    let now : List UnitReference =
    if is_already_known units queue h.name then queue else queue ++ h ∷ [] in
    let more = grown units now gs in
    let same : h ≡ g = cc in
    let first : is_already_known units now h.name ≡ true = grind (arith, known_last) in
    let later = known_longer units now more.0 h.name first in
    rw (← same, more.1) later
all_known units queue (h ∷ gs) g (suc i) e = all_known units
    (if is_already_known units queue h.name then queue else queue ++ h ∷ []) gs g i e

module _ (order : Order) (host : List ℕ) where
  pub empty_slot : (j slot : ℕ) → slice_get (empty_slots order host) j ≡ Some slot
      → (FIRST_ADDED ≤ slot) × (slot < FIRST_ADDED + MAX_ADDED)
      × (is_role is_empty order host slot ≡ true)
  unfolding empty_slots
  empty_slot j slot e = of_filter (is_role is_empty order host) FIRST_ADDED MAX_ADDED slot j e

  pub empty_ascend : (i j x y : ℕ) → i < j → slice_get (empty_slots order host) i ≡ Some x
      → slice_get (empty_slots order host) j ≡ Some y → x < y
  unfolding empty_slots
  empty_ascend i j x y h e u = filter_ascends (is_role is_empty order host) FIRST_ADDED MAX_ADDED
      i j x y h e u

module _ (order : Order) (host : List ℕ) (libs : List (List ℕ)) where
  -- an empty slot has no segment of its own
  pub not_own : (slot : ℕ)
      → is_role is_empty order host slot ≡ true → own_segment order host libs slot ≡ None
  not_own slot e = search rules

  -- the added segment at an index is found in its slot
  pub found_added : (j : ℕ) (s : Segment) → slice_get (added_segments order host libs) j
      ≡ Some s → segment_at order host libs s.slot ≡ Some s
  found_added j s e =
      let added = added_segments order host libs in
      let empty = (empty_slot order host j s.slot (in_empty order host libs j s e)).2 in
      let q = is_there (find (λ (q : Segment). q.slot == s.slot) added) (λ n. find_none _
      (λ (q : Segment). q.slot ≡ s.slot) (λ q. Decides-eqb q.slot s.slot) added n
      (j, s, e, refl)) in
      let t = found_in_slot s.slot added q.0 q.1 in
      let same : t.0 ≡ j = one t.0 t.1 t.2 t.3.1 in
      let found : q.0 ≡ s = (let a = t.2 in let b = t.3.0 in cc) in
      rw (not_own s.slot empty, empty, q.1, found) refl
    where
      one : (i : ℕ) (q : Segment) → slice_get (added_segments order host libs) i ≡ Some q
          → q.slot ≡ s.slot → i ≡ j
      one i q u same = grind (arith, in_empty, not_apart, empty_ascend)

  -- all segments
  pub in_segments : (slot : ℕ) (s : Segment) → slot < SLOTS
      → segment_at order host libs slot ≡ Some s → In s (segments order host libs)
  unfolding segments
  in_segments slot s h e = in_filter_map (segment_at order host libs) slots slot s
      (in_range 0 SLOTS slot (omega arith) (omega (arith, h))) e

  pub own_in : (slot : ℕ) (s : Segment) → slot < SLOTS
      → own_segment order host libs slot ≡ Some s → In s (own_segments order host libs)
  unfolding own_segments
  own_in slot s h e = in_filter_map (own_segment order host libs) slots slot s
      (in_range 0 SLOTS slot (omega arith) (omega (arith, h))) e

  -- each of the host's own segments is that of a slot below SLOTS
  pub own_at : (s : Segment) → In s (own_segments order host libs)
      → (slot : ℕ) × (slot < SLOTS) × (own_segment order host libs slot ≡ Some s)
  unfolding own_segments
  own_at s t =
      let r = of_filter_map (own_segment order host libs) slots s t in
      (r.0, (let a = (of_range 0 SLOTS r.0 r.1.0 r.1.1).1 in omega (arith, a)), r.2)

  -- a segment of the link is its slot's own, or one that was added
  pub own_or_added : (s : Segment) → IsSegment order host libs s
      → (own_segment order host libs s.slot ≡ Some s) ⊎ In s (added_segments order host libs)
  own_or_added s t =
      let added = added_segments order host libs in
      elim (at_slot order host libs (λ q. In q added) (all_in added) s.slot s t.1) [
        | inl own ↦ inl own
        | inr u ↦ inr u.2
      ]

-- the unit reference of a record, if it is a UNITREF
abbrev pub reference_in : ℕ → ℕ → ℕ × Record → Option UnitReference
reference_in file slot r = if is_unit_reference r.1.body
    then Some (record
    { name = r.1.name; at = record { segment = record { file = file; slot = slot }; rec = r.0 } })
    else None

-- the unit references of records are those of each, in their order
pub references_are : (file slot n : ℕ) (rs : List Record) → unit_references file slot n rs
    ≡ filter_map (reference_in file slot) (enumerate_from n rs)
references_are file slot n [] = refl
references_are file slot n (r ∷ rs) = grind (arith, references_are file slot (n + 1) rs)

-- each UNITREF of a sequence of records has its unit reference, with its name and its number
pub reference_of : (file slot n : ℕ) (rs : List Record) (j : ℕ) (r : Record)
    → slice_get rs j ≡ Some r → is_unit_reference r.body ≡ true → (p : ℕ)
    × (g : UnitReference) × (slice_get (unit_references file slot n rs) p ≡ Some g)
    × (g.name ≡ r.name) × (g.at.rec ≡ n + j)
reference_of file slot n rs j r e u =
    let g : UnitReference = record
    { name = r.name; at = record { segment = record { file = file; slot = slot }; rec = n + j } } in
    let t = in_filter_map _ _ (n + j, r) g (j, in_numbered n rs j r e) (rw u refl) in
    (t.0, g, ap (λ gs. slice_get gs t.0) (references_are file slot n rs) ∙ t.1, refl, refl)

-- a unit by its name
abbrev unit_named : List ℕ → Segment → Bool
unit_named name q = is_unit q.role && bytes_eq name q.name

-- a name is found among the slots of the units just where some segment passes the test for the unit
-- of that name
units_known : (name : List ℕ) (segs : List Segment)
    → is_some (lookup (bytes_eq name) (units_of segs)) ≡ list_any (unit_named name) segs
units_known name [] = refl
units_known name (s ∷ segs) = grind (arith, units_known name segs)

-- a name is found among the slots of the units just where some segment is the unit of that name
pub units_named : (name : List ℕ) (segs : List Segment)
    → Decides (is_some (lookup (bytes_eq name) (units_of segs)))
    (SomeItem segs (λ k q. (is_unit q.role ≡ true) × (q.name ≡ name)))
units_named name segs = Decides-at _ _ (units_known name segs) (any_of_items _ (λ q. (is_unit
    q.role ≡ true) × (q.name ≡ name)) (λ q. Decides-and _ _ (of_test _) (Decides-like _ (λ e.
    sym e) (λ e. sym e) (bytes_eq-Decides name q.name))) segs)

-- what is known has its segment
abbrev pub HasUnit : List Segment → List ℕ → Type 0
HasUnit segs name = SomeItem segs (λ k q. (is_unit q.role ≡ true) × (q.name ≡ name))

module _ (order : Order) (host : List ℕ) (libs : List (List ℕ)) where
  -- where the rounds end without a fault, a name that is known is that of a unit of the link
  pub known_has_unit : added_fault order host libs ≡ None → (name : List ℕ)
      → is_already_known (own_units order host libs) (queue_of order host libs) name ≡ true
      → HasUnit (segments order host libs) name
  known_has_unit fine name known =
      elim (or_cases _ _ known) [
        | inl e ↦
            let t = (units_named name (own_segments order host libs)).0 e in
            let o = own_at order host libs t.1 (t.0, t.2) in
            let i = in_segments order host libs o.0 t.1 o.1 (rw o.2 refl) in
            (i.0, t.1, i.1, t.3)
        | inr e ↦
            let t = (any_of_items (λ (g : UnitReference). bytes_eq g.name name)
            (λ g. g.name ≡ name) (λ g. bytes_eq-Decides g.name name)
            (queue_of order host libs)).0 e in
            let p = name_placed order host libs fine t.0 t.1 t.2 in
            let at = (empty_slot order host t.0 p.0.slot p.1.slot).1 in
            let i = in_segments order host libs p.0.slot p.0 (omega (arith, at))
            (found_added order host libs t.0 p.0 p.1.there) in
            (i.0, p.0, i.1, (ap is_unit p.1.role, p.1.name ∙ t.3))
      ]

  pub is_had_there : (g : UnitReference) → In g
      (all_unit_references (own_segments order host libs ++ added_segments order host libs))
      → is_already_known (own_units order host libs) (queue_of order host libs) g.name ≡ true
  unfolding requested_units
  is_had_there g i = grind (arith, all_known, own_units)

  -- where the rounds end without a fault, each unit that a record of the link requests is a segment
  -- of it
  pub requested_is_there : added_fault order host libs ≡ None → (s : Segment)
      → IsSegment order host libs s → (rec : ℕ) (r : Record) → slice_get s.records rec
      ≡ Some r → is_unit_reference r.body ≡ true → HasUnit (segments order host libs) r.name
  requested_is_there fine s is rec r e u =
      let own = own_segments order host libs in
      let added = added_segments order host libs in
      let g = reference_of s.file s.slot 0 s.records rec r e u in
      let there : In s (own ++ added) = elim (own_or_added order host libs s is) [
        | inl h ↦ in_left own added s (own_in order host libs s.slot s is.0 h)
        | inr h ↦ in_right own added s h
      ] in
      let i = in_flat references_of (own ++ added) s g.1 there (g.0, g.2) in
      subst (λ name. HasUnit (segments order host libs) name) g.3
      (known_has_unit fine g.1.name (is_had_there g.1 i))
