-- The units that are added are those that are requested, as they are said plainly.
use Rattle.ps_laws.proofs.Vocabulary.{◌⊎◌, ◌≢◌, slice_get, AddedUnits, if◌then◌else◌, is_unit_reference, all_unit_references, Order, bytes_eq, cases_lt, entry_at, SomeItem, source_of, RequestsAt, lookup, Record, Before, IsGiver, Reason, option_map, IsUnitSlot, Role, role_fault, code_fault, own_segment, bytes_eq-Decides, information_of, unit_references, cases_order, false≢true, added_fault, unit_source, UnitReference, code_of, IsOfFile, HasRole, reading, is_unit, Segment, enumerate_from, nat_lt, requested_from, added_segments, request_by_slot, needs_linking, rules, ◌≡◌, ℕ, zero, suc, ◌+◌, ◌-◌, ◌<◌, ◌≤◌, List, [], ◌∷◌, ◌++◌, length, map, Option, Some, None, Ok, true, false, refl, sym, ap, subst, ◌∙◌, inl, inr, arith, is_some, length-append, length-take, take, or_cases, or_left, lt-ltb, slice_get_within, slice_get-map, sources_fault, information_block, own_segments, HasSlot, AreGiven, IsOfFirstLibrary, made_from, own_units, references_of, request_parts, source_made, unit_there, role_none, round_known, in_empty, name_placed, queue_of, round_at, segment_named, segment_placed, SLOTS}
use Rattle.ps_resolve.specs.Added.{is_already_known, requested_units}
use Rattle.ps_codefile.specs.declared.entry.Role.TheVariants as role
use Rattle.ps_laws.proofs.Least.{not_both}
use Rattle.ps_laws.proofs.Looking.{any_of_items, is_there}
use Rattle.ps_lists.proofs.Items.{not_apart, at_left, first_right, right_at, of_filter_map, of_numbered, in_front}
pub use Rattle.ps_resolve.proofs.FirstSlots.{or_none as both_none, some_mapped}
use Rattle.ps_laws.proofs.Sources.{ok_is}
use Rattle.ps_laws.proofs.UnitPlaces.{unit_place}
use Rattle.ps_laws.proofs.OneQueue.{giver_of_front}
use Rattle.ps_resolve.proofs.KnownNames.{grown}
use Rattle.ps_laws.proofs.RequestedUnits.{is_had_there, reference_of, all_known, own_in, own_at, units_named, reference_in, references_are}

-- 1. the references of a sequence of segments
-- an item of a mapped list is what the function makes of the item at the same place
pub mapped : {A C : Type 0} (f : A → C) (xs : List A) (k : ℕ) (y : C)
    → slice_get (map f xs) k ≡ Some y → (x : A) × (slice_get xs k ≡ Some x) × (f x ≡ y)
mapped f xs k y e = grind (arith, some_mapped, slice_get-map)

-- an item of two joined lists is in the first at its place, or in the second, where it is as much
-- earlier as the first is long
pub split_at : {A : Type 0} (xs ys : List A) (p : ℕ) (a : A) → slice_get (xs ++ ys) p ≡ Some a
    → (slice_get xs p ≡ Some a) ⊎ ((q : ℕ) × (p ≡ length xs + q)
    × (slice_get ys q ≡ Some a))
split_at [] ys p a e = grind arith
split_at (x ∷ xs) ys zero a e = inl e
split_at {A} (x ∷ xs) ys (suc p) a e = grind (arith, split_at xs ys p a e)

-- the reference is that of record j of these records of a segment
abbrev IsOf : ℕ → ℕ → ℕ → List Record → UnitReference → ℕ → Type 0
IsOf file slot n rs g j = (r : Record) × (slice_get rs j ≡ Some r)
    × (is_unit_reference r.body ≡ true) × (r.name ≡ g.name) × (g.at.rec ≡ n + j)
    × (g.at.segment.file ≡ file) × (g.at.segment.slot ≡ slot)

module _ (file slot : ℕ) where
  -- each unit reference of a sequence of records is of a UNITREF among them, with its name and
  -- number, this file and this slot
  reference_is : (n : ℕ) (rs : List Record) (p : ℕ) (g : UnitReference) → slice_get
      (unit_references file slot n rs) p ≡ Some g → (j : ℕ) × IsOf file slot n rs g j
  reference_is n rs p g e =
      let u = of_filter_map (reference_in file slot) (enumerate_from n rs) g
      (p, ap (λ gs. slice_get gs p) (sym (references_are file slot n rs)) ∙ e) in
      let v = of_numbered n rs u.1.0 u.0 u.1.1 in
      (u.1.0, grind arith)

  -- the unit references of a sequence of records are in the order of the records
  references_ascend : (n : ℕ) (rs : List Record) (p q : ℕ) (g h : UnitReference)
      → p < q → slice_get (unit_references file slot n rs) p ≡ Some g
      → slice_get (unit_references file slot n rs) q ≡ Some h → g.at.rec < h.at.rec
  references_ascend n [] p q g h l e u = absurd (cc)
  references_ascend n (x ∷ rs) p q g h l e u =
      grind (arith, reference_is, references_ascend (n + 1) rs)

-- what the function makes of an item is in the mapped list at the same place
pub map_at : {A C : Type 0} (f : A → C) (xs : List A) (k : ℕ) (x : A)
    → slice_get xs k ≡ Some x → slice_get (map f xs) k ≡ Some (f x)
map_at f xs k x e = slice_get-map f xs k ∙ ap (option_map f) e

-- the segment of reference p of all of these segments
owner : List Segment → ℕ → ℕ
owner [] p = 0
owner (s ∷ ss) p = let own = length (references_of s) in
    if nat_lt p own then 0 else suc (owner ss (p - own))

module _ (s : Segment) (ss : List Segment) where
  owner_first : (p : ℕ) (g : UnitReference) → slice_get (references_of s) p ≡ Some g
      → owner (s ∷ ss) p ≡ 0
  unfolding owner
  owner_first p g e = rw (lt-ltb p (length (references_of s)) (slice_get_within _ p g e)) refl

  owner_later : (q : ℕ) → owner (s ∷ ss) (length (references_of s) + q) ≡ suc (owner ss q)
  unfolding owner
  owner_later q = grind arith

-- each reference to a unit is of a UNITREF of its segment
of_place : (segs : List Segment) (p : ℕ) (g : UnitReference)
    → slice_get (all_unit_references segs) p ≡ Some g → (s : Segment)
    × (slice_get segs (owner segs p) ≡ Some s) × (d : ℕ) × IsOf s.file s.slot 0 s.records g d
of_place [] p g e = absurd (cc)
of_place (s ∷ ss) p g e =
    grind (arith, split_at, references_of, reference_is, owner_first, owner_later, of_place ss)

-- a record that requests a name has its unit reference among those of all
requests_at : (segs : List Segment) (j rec : ℕ) (name : List ℕ) → RequestsAt segs j rec name
    → (p : ℕ) × (h : UnitReference) × (owner segs p ≡ j)
    × (slice_get (all_unit_references segs) p ≡ Some h) × (h.name ≡ name)
    × (h.at.rec ≡ rec)
requests_at [] j rec name t = absurd (let e = t.1 in cc)
requests_at (q ∷ ss) zero rec name t =
    let there : slice_get q.records rec ≡ Some t.2 = (let a = t.1 in let b = t.3 in cc) in
    let r = reference_of q.file q.slot 0 q.records rec t.2 there t.4 in
    let at = at_left (references_of q) (all_unit_references ss) r.0 r.1 r.2 in
    let number : r.1.at.rec ≡ rec = (let h = r.4 in omega (arith, h)) in
    (r.0, r.1, owner_first q ss r.0 r.1 r.2, at, r.3 ∙ t.5, number)
requests_at (q ∷ ss) (suc j) rec name t =
    let r = requests_at ss j rec name t in
    let own = owner_later q ss r.0 ∙ ap suc r.2 in
    let at = right_at (references_of q) (all_unit_references ss) r.0 ∙ r.3 in
    (length (references_of q) + r.0, r.1, own, at, r.4, r.5)

-- the references to units are in the order of their segments and, in each of these, of their
-- records
in_order : (segs : List Segment) (p q : ℕ) (g h : UnitReference) → p < q
    → slice_get (all_unit_references segs) p ≡ Some g
    → slice_get (all_unit_references segs) q ≡ Some h
    → Before (owner segs p ∷ g.at.rec ∷ []) (owner segs q ∷ h.at.rec ∷ [])
in_order [] p q g h l e u = absurd (cc)
in_order (s ∷ ss) p q g h l e u = let rest = in_order ss in
    grind (arith, split_at, owner_first, owner_later, references_ascend, slice_get_within, rest)

-- 2. the queue: each name at the first of its references that is not known already
-- reference p is g, and those before it make a queue of k names, of which none is that of g
abbrev IsEarliest : List (List ℕ × ℕ) → List UnitReference → List UnitReference → ℕ
    → ℕ → UnitReference → Type 0
IsEarliest units queue gs k p g = (slice_get gs p ≡ Some g)
    × (length (requested_from units queue (take p gs)) ≡ k)
    × (is_already_known units (requested_from units queue (take p gs)) g.name ≡ false)

module _ (units : List (List ℕ × ℕ)) where
  -- the name that a new one of the queue is
  new_here : (queue now gs : List UnitReference) (x : UnitReference) (k : ℕ) (g : UnitReference)
      → now ≡ (if is_already_known units queue x.name then queue else queue ++ x ∷ [])
      → length queue ≤ k → k < length now → slice_get (requested_from units now gs) k
      ≡ Some g → IsEarliest units queue (x ∷ gs) k zero g
  new_here queue now gs x k g is low high e =
      let none : is_already_known units queue x.name ≡ false = grind (arith, length-append) in
      let longer : now ≡ queue ++ x ∷ [] = grind arith in
      let at : length queue ≡ k = grind (arith, length-append) in
      let more = grown units now gs in
      let first = at_left now more.0 k x (ap (λ r. slice_get r k) longer
      ∙ first_right queue (x ∷ []) k (sym at)) in
      let same : x ≡ g = cc in
      let new = ap (λ h. is_already_known units queue h.name) (sym same) ∙ none in
      (ap (λ h. Some h) same, at, new)

  -- each name that is after those in the queue is that of an earliest reference
  requested_at : (queue gs : List UnitReference) (k : ℕ) (g : UnitReference)
      → length queue ≤ k → slice_get (requested_from units queue gs) k ≡ Some g
      → (p : ℕ) × IsEarliest units queue gs k p g
  requested_at queue [] k g low e = grind (arith, slice_get_within)
  requested_at queue (x ∷ gs) k g low e =
      let now = if is_already_known units queue x.name then queue else queue ++ x ∷ [] in
      elim (cases_lt k (length now)) [
        | inl h ↦ (zero, new_here queue now gs x k g refl low h e)
        | inr h ↦ (let t = requested_at now gs k g h e in (suc t.0, t.1))
      ]

  -- more references make no shorter queue
  longer_queue : (queue gs : List UnitReference) (p q : ℕ) → p ≤ q
      → length (requested_from units queue (take p gs))
      ≤ length (requested_from units queue (take q gs))
  longer_queue queue gs zero q h = grind (arith, grown units queue (take q gs), length-append)
  longer_queue queue gs (suc p) zero h = absurd (omega (arith, h))
  longer_queue queue [] (suc p) (suc q) h = omega arith
  longer_queue queue (x ∷ gs) (suc p) (suc q) h = longer_queue
      (if is_already_known units queue x.name then queue else queue ++ x ∷ []) gs p q
      (omega (arith, h))

  -- the earlier of two names is that of the earlier reference
  in_turn : (queue gs : List UnitReference) (j k p q : ℕ) (g h : UnitReference) → j < k
      → IsEarliest units queue gs j p g → IsEarliest units queue gs k q h → p < q
  in_turn queue gs j k p q g h l s t = grind (arith, cases_lt, longer_queue)

  -- no reference before the earliest of a name has that name
  distinct : (queue gs : List UnitReference) (k p q : ℕ) (g h : UnitReference)
      → IsEarliest units queue gs k p g → q < p → slice_get gs q ≡ Some h
      → h.name ≢ g.name
  distinct queue gs k p q g h t l e same =
      let known = all_known units queue _ h q (in_front p gs q h l e) in
      false≢true (sym t.2 ∙ ap (is_already_known units _) (sym same) ∙ known)

-- the earliest reference of a name is of the first record of all that requests it
giver : (units : List (List ℕ × ℕ)) (segs : List Segment) (k p : ℕ) (g : UnitReference)
    → IsEarliest units [] (all_unit_references segs) k p g → IsGiver segs (owner segs p) g
giver units segs k p g t = ((of.0, of.1, of.3.5, of.3.6), requested, first)
  where
    of : (s : Segment) × (slice_get segs (owner segs p) ≡ Some s) × (d : ℕ)
        × IsOf s.file s.slot 0 s.records g d
    of = of_place segs p g t.0

    requested : RequestsAt segs (owner segs p) g.at.rec g.name
    requested = (
      of.0,
      of.1,
      of.3.0,
      (let a = of.3.4 in let b = of.3.1 in grind arith),
      of.3.2,
      of.3.3,
    )

    first : (j k : ℕ) → Before (j ∷ k ∷ []) (owner segs p ∷ g.at.rec ∷ [])
        → RequestsAt segs j k g.name → ⊥
    first j n b requests =
        let a = requests_at segs j n g.name requests in
        let before : Before (owner segs a.0 ∷ a.1.at.rec ∷ [])
        (owner segs p ∷ g.at.rec ∷ []) =
        rw (a.2, a.5) b in
        elim (cases_order a.0 p) [
          | inl same ↦
              let one : a.1 ≡ g = (let u = a.3 in let v = t.0 in cc) in
              let itself : Before (owner segs p ∷ g.at.rec ∷ [])
              (owner segs p ∷ g.at.rec ∷ []) =
              rw (same, one) at before in
              not_both (owner segs p ∷ g.at.rec ∷ [])
              (owner segs p ∷ g.at.rec ∷ []) itself itself
          | inr u ↦ elim u [
            | inl l ↦ distinct units [] (all_unit_references segs) k p a.0 g a.1 t l a.3 a.4
            | inr l ↦ not_both (owner segs a.0 ∷ a.1.at.rec ∷ []) (owner segs p ∷ g.at.rec
                ∷ []) before
                (in_order segs p a.0 g a.1 l t.0 a.3)
          ]
        ]

module _ (order : Order) (host : List ℕ) where
  -- a name of the queue that these segments come to has its giver among the host's own segments and
  -- these
  pub given : (libs : List (List ℕ)) (segs : List Segment) (k : ℕ) (g : UnitReference)
      → slice_get (requested_units order host libs segs) k ≡ Some g
      → (i : ℕ) × IsGiver (own_segments order host libs ++ segs) i g
  unfolding requested_units
  given libs segs k g e = grind (arith, requested_at, giver)

  -- 4. what the host's own slots have
  -- a slot of a unit's role is a unit slot
  pub unit_slot : (slot : ℕ) (r : Role)
      → is_unit r ≡ true → HasRole order host slot r → IsUnitSlot order host slot
  unit_slot slot r unit has = grind arith

module _ (order : Order) (host : List ℕ) (libs : List (List ℕ)) where
  -- a slot's own segment has the slot's role and its name
  pub own_is : (slot : ℕ) (s : Segment)
      → own_segment order host libs slot ≡ Some s → (r : Role)
      × HasRole order host slot r × (s.role ≡ r) × (s.name ≡ (entry_at order host slot).name)
  own_is slot s e =
      let t = made_from order host libs slot s e in
      let role = ap (λ (q : Segment). q.role) t.3.is in
      (t.0, ok_is _ t.0 t.1, role, ap (λ (q : Segment). q.name) t.3.is)

  -- the name of a unit among the host's own segments is that of a unit slot of the host
  slot_of_unit : (name : List ℕ) → is_some (lookup (bytes_eq name) (own_units order host libs))
      ≡ true → HasSlot order host name
  slot_of_unit name e =
      let t = (units_named name (own_segments order host libs)).0 e in
      let o = own_at order host libs t.1 (t.0, t.2) in
      let r = own_is o.0 t.1 o.2 in
      let unit = unit_slot order host o.0 r.0 (sym (ap is_unit r.2) ∙ t.3.0) r.1 in
      (o.0, o.1, (unit, sym r.3 ∙ t.3.1))

  -- a slot that is not empty has a source, in whose code there is no fault
  source_there : (slot : ℕ) (r : Role) → r ≢ role.Empty
      → role_fault order host libs slot r ≡ None → (at : ℕ × ℕ)
      × (source_of order host libs slot r ≡ Some at)
      × (code_fault order host libs slot r at ≡ None)
  source_there slot role.Empty filled e = absurd (filled refl)
  source_there slot role.Wanted filled e =
      let parts = request_parts order host libs (request_by_slot order host slot) e in
      let at = is_there _ (unit_there order (entry_at order host slot).name libs parts.0) in
      (at.0, at.1, rw at.1 at parts.2)
  source_there slot other filled e = ((0, slot), refl, e)

  -- where the sources have no fault, each slot with a role has its own segment
  pub has_own : sources_fault order host libs ≡ None
      → (slot : ℕ) → slot < SLOTS → (r : Role) → HasRole order host slot r
      → r ≢ role.Empty → (s : Segment) × (own_segment order host libs slot ≡ Some s)
  has_own fine slot inside r has filled =
      let at = source_there slot r filled (role_none order host libs fine slot inside r has) in
      let name = (entry_at order host slot).name in
      let s = is_there _ (source_made order host libs slot name r at.0 at.2) in
      (s.0, rw (has, at.1) s.1)

  -- where the sources have no fault, the name of a unit slot is that of a unit among the host's own
  -- segments
  unit_of_slot : sources_fault order host libs ≡ None → (name : List ℕ) → HasSlot
      order host name → is_some (lookup (bytes_eq name) (own_units order host libs)) ≡ true
  unit_of_slot fine name t =
      elim t.2.0 [
        | inl has ↦ known role.Unit has refl (λ e. cc)
        | inr has ↦ known role.Wanted has refl (λ e. cc)
      ]
    where
      known : (r : Role) → HasRole order host t.0 r → is_unit r ≡ true → r ≢ role.Empty
          → is_some (lookup (bytes_eq name) (own_units order host libs)) ≡ true
      known r has unit filled =
          let m = has_own fine t.0 t.1 r has filled in
          let i = own_in order host libs t.0 m.0 t.1 m.1 in
          let o = own_is t.0 m.0 m.1 in
          let same : o.0 ≡ r = (let a = o.1 in cc) in
          (units_named name (own_segments order host libs)).1
          (i.0, m.0, i.1, (ap is_unit (o.2 ∙ same) ∙ unit, o.3 ∙ t.2.1))

  -- 5. where an added segment comes from
  of_first_library : (s : Segment) → s.role ≡ role.Wanted → IsOfFile order host libs s
      → unit_source order s.name libs ≡ Some (s.file, s.index) → IsOfFirstLibrary order libs s
  of_first_library s wanted h source =
      let u = unit_place order s.name libs (s.file, s.index) source in
      let records = ap (λ (p : List Record × Option Reason). p.0)
      (sym (h.records (ap needs_linking wanted))) in (
        u.number,
        u.library,
        u.there,
        (
          u.first,
          u.file,
          u.within,
          u.named,
          subst (λ f. code_of f (entry_at order f s.index) ≡ Ok s.code) (u.file_is host) h.code,
          rw wanted at h.kept,
          subst (λ f. s.block ≡ information_block (entry_at order f s.index) true)
              (u.file_is host) (rw wanted at h.block),
          subst (λ f. s.records
              ≡ (reading order (information_of f (entry_at order f s.index))).0)
              (u.file_is host) records,
        ),
      )

-- 6. all of it
pub same_items : {A : Type 0} (xs ys : List A) → ((k : ℕ) → slice_get xs k ≡ slice_get ys k)
    → xs ≡ ys
same_items [] [] e = refl
same_items [] (y ∷ ys) e = let h = e 0 in absurd (cc)
same_items (x ∷ xs) [] e = let h = e 0 in absurd (cc)
same_items {A} (x ∷ xs) (y ∷ ys) e =
    let h : x ≡ y = (let g = e 0 in cc) in
    let t : xs ≡ ys = same_items xs ys (λ k. e (suc k)) in
    cc

module _ (order : Order) (host : List ℕ) (libs : List (List ℕ))
    (fine : sources_fault order host libs ≡ None) (ended : added_fault order host libs ≡ None)
  where
    abbrev queue : List UnitReference
    queue = queue_of order host libs

    abbrev all : List Segment
    all = own_segments order host libs ++ added_segments order host libs

    -- each name of the queue is that of an earliest reference
    earliest : (k : ℕ) (g : UnitReference) → slice_get queue k ≡ Some g
        → (p : ℕ) × IsEarliest (own_units order host libs) [] (all_unit_references all) k p g
    unfolding requested_units
    earliest k g e = grind (arith, requested_at, own_units)

    not_slot : (queue : List UnitReference) (name : List ℕ)
        → is_already_known (own_units order host libs) queue name ≡ false
        → HasSlot order host name → ⊥
    not_slot queue name none has = grind (arith, false≢true, or_left, own_units, unit_of_slot)

    is_requested : (k : ℕ) (g : UnitReference) → slice_get queue k ≡ Some g
        → ((i : ℕ) × (i < length (own_segments order host libs) + k) × IsGiver all i g)
        × (HasSlot order host g.name → ⊥)
    is_requested k g e =
        let own = own_segments order host libs in
        let segs = added_segments order host libs in
        let p = given order host libs _ k g (name_placed order host libs ended k g e).1.earlier in
        let within = slice_get_within _ p.0 p.1.0.0 p.1.0.1 in
        let joined = length-append own (take k segs) in
        let front = length-take k segs in
        let below : p.0 < length own + k = omega (arith, within, joined, front) in
        let giver = giver_of_front own segs k p.0 g below p.1 in
        ((p.0, below, giver), not_slot _ g.name (earliest k g e).1.2)

    is_complete : (i rec : ℕ) (name : List ℕ) → RequestsAt all i rec name
        → HasSlot order host name ⊎ SomeItem queue (λ k g. g.name ≡ name)
    is_complete i rec name requests =
        let a = requests_at all i rec name requests in
        elim (or_cases _ _ (rw a.4 at (is_had_there order host libs a.1 (a.0, a.3)))) [
          | inl e ↦ inl (slot_of_unit order host libs name e)
          | inr e ↦ inr ((any_of_items (λ (g : UnitReference). bytes_eq g.name name)
              (λ (g : UnitReference). g.name ≡ name) (λ g. bytes_eq-Decides g.name name) _).0 e)
        ]

    are_given : (j k : ℕ) (g h : UnitReference) → j < k → slice_get queue j ≡ Some g
        → slice_get queue k ≡ Some h → AreGiven all g h
    are_given j k g h l e u = grind (arith, earliest, giver, in_turn, in_order)

    apart : (j k : ℕ) (g h : UnitReference) → j < k → slice_get queue j ≡ Some g
        → slice_get queue k ≡ Some h → g.name ≡ h.name → ⊥
    apart j k g h l e u same = let t = are_given j k g h l e u in
        t.3.2 t.0 g.at.rec t.4 (subst (λ (n : List ℕ). RequestsAt all t.0 g.at.rec n) same t.2.1)

    is_once : (j k : ℕ) (g h : UnitReference) → slice_get queue j ≡ Some g
        → slice_get queue k ≡ Some h → g.name ≡ h.name → j ≡ k
    is_once j k g h e u same = grind (arith, not_apart, apart)

    same_names : map (λ (s : Segment). s.name) (added_segments order host libs)
        ≡ map (λ (g : UnitReference). g.name) (queue_of order host libs)
    same_names = grind (arith, same_items, slice_get-map, round_at, queue_of)

    is_found : (k : ℕ) (s : Segment) → slice_get (added_segments order host libs) k ≡ Some s
        → IsOfFirstLibrary order libs s
    is_found k s e = grind (arith, segment_placed, of_first_library, round_known)

    is_wanted : (k : ℕ) (s : Segment) → slice_get (added_segments order host libs) k ≡ Some s
        → (s.role ≡ role.Wanted) × (s.added ≡ true)
    is_wanted k s e = grind (arith, segment_named)

    pub units_are : AddedUnits order host libs (queue_of order host libs)
        (added_segments order host libs)
    units_are = search (
      rules,
      is_requested,
      is_complete,
      is_once,
      are_given,
      same_names,
      in_empty,
      is_wanted,
      is_found,
    )
