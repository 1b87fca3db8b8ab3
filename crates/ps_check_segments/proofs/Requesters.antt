-- The records that request units: each is of a segment that was read, and the first that has its
-- name.
use Rattle.std.proofs.Common.{◌≡◌, ◌∙◌, ◌+◌, ◌<◌, ◌++◌, ◌∷◌, [], ℕ, zero, suc, Bool, List, drop, take, true, false, refl, sym, ap, subst, inl, inr, arith}
use Rattle.std.specs.Prelude.{◌⊎◌, ◌||◌, Option, Some, None, Result, Ok, if◌then◌else◌, is_some, slice_get}
use Rattle.std.specs.List.{find, list_any, range_with_len}
use Rattle.std.specs.Option.{option_or}
use Rattle.std.proofs.lemmas.Bool.{false≢true}
use Rattle.std.proofs.lemmas.List.Folds.{find-append}
use Rattle.std.proofs.lemmas.List.{take-append-drop}
use Rattle.std.specs.Map.{lookup}
use Rattle.std.specs.Str.{bytes_eq}
use Rattle.std.proofs.lemmas.Slice.Eq.{bytes_eq-Decides}
use Rattle.std.proofs.lemmas.Option.{none-some, same_Some}
use Rattle.ps_words.specs.declared.fault.Reason.{Reason}
use Rattle.ps_words.specs.declared.order.Order.{Order}
use Rattle.ps_codefile.specs.Dictionary.{entry_at, role_of}
use Rattle.ps_codefile.specs.Roles.{is_empty}
use Rattle.ps_codefile.specs.declared.entry.Role.{Role}
use Rattle.ps_codefile.specs.declared.entry.Role.TheVariants as role
use Rattle.ps_codefile.specs.declared.dictionary_layout.TheConstants.{FIRST_ADDED, SLOTS}
use Rattle.ps_linkinfo.specs.RecordCounts.{is_unit_reference}
use Rattle.ps_linkinfo.specs.declared.record.LinkRecord.{LinkRecord as Record}
use Rattle.ps_reading.specs.Added.{all_unit_references, empty_slots, is_already_known, requested_from, unit_references}
use Rattle.ps_reading.specs.Faults.{is_role}
use Rattle.ps_reading.specs.KnownSegments.{is_in_slot}
use Rattle.ps_reading.specs.Readings.{read_requests, read_segment, read_segments}
use Rattle.ps_reading.specs.Sources.{Segment, units_of}
use Rattle.ps_reading.specs.Standing.Slots.{HasRole}
use Rattle.ps_reading.specs.declared.reading.added.TheConstants.{MAX_ADDED, MAX_REQUESTED}
use Rattle.ps_reading.specs.declared.reading.added.UnitReference.{UnitReference}
use Rattle.ps_reading.proofs.BySlot.{empty_are}
use Rattle.ps_reading.proofs.FirstSlots.{any_found}
use Rattle.ps_lists.proofs.Items.{In, of_all}
use Rattle.ps_lists.proofs.Places.{none_found, of_filter, of_front, of_joined, of_kept, of_one, of_range}
use Rattle.ps_check_segments.proofs.SlotsRead.{added_found, added_slots, all, empty, found_all, found_of_free, found_own, outcome, own, own_in_place, requested, requests_are}

-- the records that request units
-- a name that is requested is one of the queue before, or one of the references
of_names : (units : List (List ℕ × ℕ)) (queue gs : List UnitReference) (g : UnitReference)
    → In g (requested_from units queue gs) → In g queue ⊎ In g gs
of_names units queue [] g t = inl t
of_names units queue (x ∷ gs) g t = by (is_already_known units queue x.name)
    (λ q u. of_names units q gs g u) t
  where
    later : In g queue ⊎ In g gs → In g queue ⊎ In g (x ∷ gs)
    later (inl u) = inl u
    later (inr u) = inr (suc u.0, u.1)

    behind : In g (queue ++ x ∷ []) ⊎ In g gs → In g queue ⊎ In g (x ∷ gs)
    behind (inr u) = inr (suc u.0, u.1)
    behind (inl u) = elim (of_joined queue (x ∷ []) u.0 g u.1) [
      | inl here ↦ inl (u.0, here)
      | inr last ↦ inr (zero, ap (λ (o : UnitReference). Some o) (of_one x g last.0 last.2))
    ]

    by : (b : Bool) → ((q : List UnitReference) → In g (requested_from units q gs)
        → In g q ⊎ In g gs)
        → In g (requested_from units (if b then queue else queue ++ x ∷ []) gs)
        → In g queue ⊎ In g (x ∷ gs)
    by true more u = later (more queue u)
    by false more u = behind (more (queue ++ x ∷ []) u)

-- a reference is that of a record of a segment
of_records : (file slot rec : ℕ) (rs : List Record) (g : UnitReference)
    → In g (unit_references file slot rec rs) → g.at.segment.slot ≡ slot
of_records file slot rec [] g t = absurd (none-some g t.1)
of_records file slot rec (r ∷ rs) g t = by (is_unit_reference r.body)
    (of_records file slot (rec + 1) rs g) t
  where
    this : UnitReference
    this = record
        { name = r.name; at = record { segment = record { file = file; slot = slot }; rec = rec } }

    by : (b : Bool) → (In g (unit_references file slot (rec + 1) rs) → g.at.segment.slot ≡ slot)
        → In g (if b then this ∷ unit_references file slot (rec + 1) rs
        else unit_references file slot (rec + 1) rs) → g.at.segment.slot ≡ slot
    by false more t = more t
    by true more (suc i, e) = more (i, e)
    by true more (zero, e) = sym (ap (λ (o : UnitReference). o.at.segment.slot) (same_Some _ g e))

of_references : (ss : List Segment) (g : UnitReference) → In g (all_unit_references ss)
    → (s : Segment) × In s ss × (g.at.segment.slot ≡ s.slot)
of_references [] g t = absurd (none-some g t.1)
of_references (s ∷ ss) g t =
    elim (of_joined (unit_references s.file s.slot 0 s.records) (all_unit_references ss) t.0 g t.1) [
      | inl here ↦ (s, (zero, refl), of_records s.file s.slot 0 s.records g (t.0, here))
      | inr there ↦ (let u = of_references ss g (there.0, there.2) in
          (u.0, (suc u.1.0, u.1.1), u.2))
    ]

-- the first with its name is found by it
abbrev FirstByName : List UnitReference → Type 0
FirstByName gs = (g : UnitReference) → In g gs → find (λ x. bytes_eq x.name g.name) gs ≡ Some g

not_second : (a b : Bool) → (a || b) ≡ false → b ≡ false
not_second true b e = absurd (false≢true (sym e))
not_second false b e = e

nothing_found : {X : Type 0} (o : Option X) → is_some o ≡ false → o ≡ None
nothing_found None e = refl
nothing_found (Some x) e = absurd (false≢true (sym e))

itself : (g : UnitReference) → bytes_eq g.name g.name ≡ true
itself g = (bytes_eq-Decides g.name g.name).1 refl

first_more : (units : List (List ℕ × ℕ)) (queue : List UnitReference) (x : UnitReference)
    → is_already_known units queue x.name ≡ false → FirstByName queue
    → FirstByName (queue ++ x ∷ [])
first_more units queue x new first g t = elim (of_joined queue (x ∷ []) t.0 g t.1) [
  | inl here ↦ find-append (is_g) queue (x ∷ [])
      ∙ ap (λ (o : Option UnitReference). option_or o (find is_g (x ∷ []))) (first g (t.0, here))
  | inr last ↦ last_is (of_one x g last.0 last.2)
]
  where
    is_g : UnitReference → Bool
    is_g x = bytes_eq x.name g.name

    none : find (λ y. bytes_eq y.name x.name) queue ≡ None
    none = nothing_found (find (λ y. bytes_eq y.name x.name) queue)
        (sym (any_found (λ (y : UnitReference). bytes_eq y.name x.name) queue)
        ∙ not_second (is_some (lookup (bytes_eq x.name) units))
        (list_any (λ y. bytes_eq y.name x.name) queue) new)

    last_is : x ≡ g → find (λ y. bytes_eq y.name g.name) (queue ++ x ∷ []) ≡ Some g
    last_is same = subst (λ (g : UnitReference). find (λ y. bytes_eq y.name g.name) (queue ++ x ∷ [])
        ≡ Some g) same (find-append (λ (y : UnitReference). bytes_eq y.name x.name) queue (x ∷ [])
        ∙ (rw (none, itself x)))

first_names : (units : List (List ℕ × ℕ)) (queue gs : List UnitReference) → FirstByName queue
    → FirstByName (requested_from units queue gs)
first_names units queue [] first = first
first_names units queue (x ∷ gs) first = by (is_already_known units queue x.name) refl
    (λ q f. first_names units q gs f)
  where
    by : (b : Bool) → is_already_known units queue x.name ≡ b
        → ((q : List UnitReference) → FirstByName q → FirstByName (requested_from units q gs))
        → FirstByName (requested_from units (if b then queue else queue ++ x ∷ []) gs)
    by true e more = more queue first
    by false e more = more (queue ++ x ∷ []) (first_more units queue x e first)

-- also in a front of the queue
first_in_front : (n : ℕ) (gs : List UnitReference) → FirstByName gs → FirstByName (take n gs)
first_in_front n gs first g t = by (find (λ x. bytes_eq x.name g.name) (take n gs)) refl
  where
    whole : option_or (find (λ x. bytes_eq x.name g.name) (take n gs))
        (find (λ x. bytes_eq x.name g.name) (drop n gs)) ≡ Some g
    whole = sym (find-append (λ (x : UnitReference). bytes_eq x.name g.name) (take n gs) (drop n gs))
        ∙ ap (λ (xs : List UnitReference). find (λ x. bytes_eq x.name g.name) xs)
        (take-append-drop n gs) ∙ first g (t.0, of_front n gs t.0 g t.1)

    by : (o : Option UnitReference) → find (λ x. bytes_eq x.name g.name) (take n gs) ≡ o
        → find (λ x. bytes_eq x.name g.name) (take n gs) ≡ Some g
    by None e = absurd (false≢true (sym (none_found (λ (x : UnitReference). bytes_eq x.name g.name)
        (take n gs) t.0 g e t.1) ∙ itself g))
    by (Some y) e = e ∙ (let t = rw e at whole in t)

module _ (order : Order) (host : List ℕ) (libs : List (List ℕ)) where
  free_role : (slot : ℕ) (q : Result Role Reason) → role_of (entry_at order host slot) ≡ q
      → is_role is_empty order host slot ≡ true → HasRole order host slot role.Empty
  free_role slot (Ok role.Empty) e h = e
  free_role slot other e h = let both = rw e at h in absurd (false≢true both)

  -- each segment of the host's own and of the added ones is found by its slot
  own_at : (s : Segment) → In s (own order host libs)
      → (x : ℕ) × (x < SLOTS) × (read_segment order host libs x ≡ Some s)
  unfolding read_segments
  own_at s (i, e) = let t = of_kept (read_segment order host libs) 0 SLOTS i s e in
      (t.0, omega (arith, t.2), t.3)

  own_found : (s : Segment) → In s (own order host libs)
      → find (is_in_slot s.slot) (all order host libs) ≡ Some s
  own_found s t =
      let x = own_at s t in
      let here = own_in_place order host libs x.0 s x.2 in
      subst (λ (n : ℕ). find (is_in_slot n) (all order host libs) ≡ Some s) (sym here)
      (found_all order host libs x.0 x.1
      ∙ ap (λ (o : Option Segment). option_or o (if is_role is_empty order host x.0
      then find (is_in_slot x.0) (outcome order host libs).added else None))
      (found_own order host libs x.0 x.1 ∙ x.2))

  empty_below : (i slot : ℕ) → slice_get (empty order host libs) i ≡ Some slot → slot < SLOTS
  unfolding empty_slots
  empty_below i slot e =
      let t = of_filter (is_role is_empty order host) (range_with_len FIRST_ADDED MAX_ADDED) i slot e in
      let at = of_range FIRST_ADDED MAX_ADDED t.0 slot t.1 in
      omega (arith, at.0, at.1)

  added_one_found : (s : Segment) → In s (outcome order host libs).added
      → find (is_in_slot s.slot) (all order host libs) ≡ Some s
  added_one_found s (i, e) =
      let at = added_slots order host libs i s e in
      let is = free_role s.slot (role_of (entry_at order host s.slot)) refl
      (of_all (λ (i : ℕ). is_role is_empty order host i ≡ true) (empty order host libs)
      (empty_are order host libs) i s.slot at) in
      found_of_free order host libs s.slot (empty_below i s.slot at) is
      ∙ (added_found order host libs i s.slot at ∙ e)

  -- the unit is requested by a record of a segment that was read, the first with its name
  pub record IsAsked (g : UnitReference) : Type 0 where
    pub segment : Segment
    pub found : find (is_in_slot g.at.segment.slot) (all order host libs) ≡ Some segment
    pub first : find (λ x. bytes_eq x.name g.name) (read_requests order host libs) ≡ Some g

  abbrev units : List (List ℕ × ℕ)
  units = units_of (own order host libs)

  abbrev references : List Segment → List UnitReference
  references ss = all_unit_references ss

  abbrev first_names_asked : List UnitReference
  first_names_asked = requested_from units [] (references (own order host libs))

  all_first : FirstByName (read_requests order host libs)
  all_first = subst FirstByName (sym (requests_are order host libs))
      (first_in_front MAX_REQUESTED (requested order host libs)
      (first_names units first_names_asked (references (outcome order host libs).added)
      (first_names units [] (references (own order host libs)) (λ g t. absurd (none-some g t.1)))))

  asker : (g : UnitReference) → In g (requested order host libs)
      → (s : Segment) × (find (is_in_slot g.at.segment.slot) (all order host libs) ≡ Some s)
  asker g t = by (of_names units first_names_asked (references (outcome order host libs).added) g t)
    where
      at : (s : Segment) → g.at.segment.slot ≡ s.slot
          → find (is_in_slot s.slot) (all order host libs) ≡ Some s
          → (s : Segment) × (find (is_in_slot g.at.segment.slot) (all order host libs) ≡ Some s)
      at s same found = (
        s,
        subst (λ (n : ℕ). find (is_in_slot n) (all order host libs) ≡ Some s)
            (sym same) found,
      )

      of_own : In g (references (own order host libs))
          → (s : Segment) × (find (is_in_slot g.at.segment.slot) (all order host libs) ≡ Some s)
      of_own u = let r = of_references (own order host libs) g u in
          at r.0 r.2 (own_found r.0 r.1)

      by : In g first_names_asked ⊎ In g (references (outcome order host libs).added)
          → (s : Segment) × (find (is_in_slot g.at.segment.slot) (all order host libs) ≡ Some s)
      by (inl u) = elim (of_names units [] (references (own order host libs)) g u) [
        | inl none ↦ absurd (none-some g none.1)
        | inr v ↦ of_own v
      ]
      by (inr u) = let r = of_references (outcome order host libs).added g u in
          at r.0 r.2 (added_one_found r.0 r.1)

  pub asked : (g : UnitReference) → In g (read_requests order host libs) → IsAsked g
  asked g t =
      let kept : slice_get (take MAX_REQUESTED (requested order host libs)) t.0 ≡ Some g =
      ap (λ (gs : List UnitReference). slice_get gs t.0) (sym (requests_are order host libs)) ∙ t.1 in
      let a = asker g (t.0, of_front MAX_REQUESTED (requested order host libs) t.0 g kept) in
      record { segment = a.0; found = a.1; first = all_first g t }
