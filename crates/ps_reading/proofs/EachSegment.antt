-- What a segment of a link is made of, and what holds of each.
use Rattle.ps_reading.proofs.Vocabulary.{rules, ◌≡◌, ℕ, ◌<◌, List, [], ◌∷◌, Bool, true, false, Option, Some, None, Result, Ok, refl, ◌∙◌, ◌==◌, inl, inr, arith, ◌⊎◌, All, option_and_then, option_map, eqb-true, filter_map, cons_option, find, result_ok, option_and_then_some, All-nil, All-cons, All-tail, All-from_get_or, get_or-range_with_len, Order, Reason, slots, entry_at, role_of, code_of, is_empty, Role, Wanted, added_segment, added_segments, as_added, segment_at, is_role, Segment, file_at, own_segment, segment_from, segment_with, source_of, unit_source, UnitReference, SLOTS}
use Rattle.ps_reading.proofs.FirstSlots.{some_mapped}
pub use Rattle.ps_lists.proofs.Items.{find_has}

-- 1. what it is made of
-- the segment has the code of its entry, and is this one
pub record IsMade (order : Order) (host : List ℕ) (libs : List (List ℕ)) (slot : ℕ)
    (name : List ℕ) (r : Role) (place : ℕ × ℕ) (s : Segment) : Type 0 where
  pub code : List ℕ
  pub given : code_of (file_at host libs place.0)
      (entry_at order (file_at host libs place.0) place.1) ≡ Ok code
  pub is : s ≡ segment_with order host libs slot name r place code

module _ (order : Order) (host : List ℕ) (libs : List (List ℕ)) where
  pub is_made : (slot : ℕ) (name : List ℕ) (r : Role) (place : ℕ × ℕ) (s : Segment)
      → segment_from order host libs slot name r place ≡ Some s
      → IsMade order host libs slot name r place s
  is_made slot name r place s h =
      by (code_of (file_at host libs place.0) (entry_at order (file_at host libs place.0) place.1))
      refl h
    where
      by : (q : Result (List ℕ) Reason) → code_of (file_at host libs place.0)
          (entry_at order (file_at host libs place.0) place.1) ≡ q
          → option_map (segment_with order host libs slot name r place) (result_ok q) ≡ Some s
          → IsMade order host libs slot name r place s
      by q e k = search rules

  -- a slot's own segment is made from its source, by its role
  pub own_made : (slot : ℕ) (s : Segment) → own_segment order host libs slot ≡ Some s
      → (r : Role) × (result_ok (role_of (entry_at order host slot)) ≡ Some r)
      × (place : ℕ × ℕ) × IsMade order host libs slot
      (entry_at order host slot).name r place s
      × (source_of order host libs slot r ≡ Some place)
  own_made slot s h =
      let name = (entry_at order host slot).name in
      option_and_then_some (λ (r : Role). option_and_then
      (segment_from order host libs slot name r) (source_of order host libs slot r))
      (result_ok (role_of (entry_at order host slot))) s h (λ r is rest.
      option_and_then_some (segment_from order host libs slot name r)
      (source_of order host libs slot r) s rest
      (λ place there from. (r, is, place, is_made slot name r place s from, there)))

  -- an added segment is made from its unit, and marked
  pub added_made : (g : UnitReference) (slot : ℕ) (s : Segment)
      → added_segment order host libs g slot ≡ Some s
      → (place : ℕ × ℕ) × (q : Segment) × (s ≡ as_added q)
      × IsMade order host libs slot g.name Wanted place q
      × (unit_source order g.name libs ≡ Some place)
  added_made g slot s h =
      let marked = some_mapped as_added (option_and_then
      (segment_from order host libs slot g.name Wanted) (unit_source order g.name libs)) s h in
      option_and_then_some (segment_from order host libs slot g.name Wanted)
      (unit_source order g.name libs) marked.0 marked.1
      (λ place there from. (
        place,
        marked.0,
        marked.2,
        is_made slot g.name Wanted place marked.0 from,
        there,
      ))

  -- 2. what holds of each
  -- the segment of a slot is its own, or of an empty slot one that was added
  pub at_slot : (P : Segment → Type 0) → All P (added_segments order host libs)
      → (slot : ℕ) (s : Segment) → segment_at order host libs slot ≡ Some s
      → (own_segment order host libs slot ≡ Some s)
      ⊎ ((is_role is_empty order host slot ≡ true) × (s.slot ≡ slot) × P s)
  at_slot P all slot s h = by (own_segment order host libs slot) refl
      (is_role is_empty order host slot) refl
    where
      by : (o : Option Segment) → own_segment order host libs slot ≡ o → (b : Bool)
          → is_role is_empty order host slot ≡ b
          → (own_segment order host libs slot ≡ Some s)
          ⊎ ((is_role is_empty order host slot ≡ true) × (s.slot ≡ slot) × P s)
      by (Some t) e b f = inl (e ∙ rw e at h)
      by None e false f = let none : None ≡ Some s = rw (e, f) at h in cc
      by None e true f =
          let found : find (λ (x : Segment). x.slot == slot) (added_segments order host libs)
          ≡ Some s = rw (e, f) at h in
          let has = find_has P (λ (x : Segment). x.slot == slot)
          (added_segments order host libs) s found all in
          inr (f, eqb-true s.slot slot has.0, has.1)

-- what each slot gives
pub each_slot : (P : Segment → Type 0) (f : ℕ → Option Segment)
    → ((x : ℕ) (s : Segment) → x < SLOTS → f x ≡ Some s → P s)
    → All P (filter_map f slots)
each_slot P f h = each slots (All-from_get_or (λ (x : ℕ). x < SLOTS) slots 0
    (λ i lt. omega (arith, lt, get_or-range_with_len 0 SLOTS i 0)))
  where
    each : (xs : List ℕ) → All (λ (x : ℕ). x < SLOTS) xs → All P (filter_map f xs)
    each [] all = All-nil P
    each (x ∷ xs) all = by (f x) refl (each xs (All-tail (λ (y : ℕ). y < SLOTS) x xs all))
      where
        by : (o : Option Segment) → f x ≡ o → All P (filter_map f xs)
            → All P (cons_option o (filter_map f xs))
        by None e rest = rest
        by (Some s) e rest = All-cons P s (filter_map f xs) (h x s (all 0 x (omega arith)) e) rest
