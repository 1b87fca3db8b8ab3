-- What was read of each slot of a host, also where its segment is refused: by the role of the slot,
-- and of an empty slot by the round that is to add a unit there.
use Rattle.std.proofs.Common.{◌≡◌, ◌≢◌, ◌∙◌, ◌==◌, ◌<◌, ◌≤◌, [], ℕ, Bool, List, length, take, true, false, refl, sym, ap, subst, inl, inr, arith}
use Rattle.std.specs.Prelude.{◌⊎◌, Option, Some, None, Result, Ok, Err, if◌then◌else◌, is_none, option_and_then, slice_get}
use Rattle.std.specs.List.{enumerate_from, find, range_with_len}
use Rattle.std.specs.Option.{option_map, option_map_or, option_or}
use Rattle.std.proofs.lemmas.Bool.{cases_Bool, cases_eq, eqb-true, false≢true}
use Rattle.std.proofs.lemmas.Bool.Decides.{nat_tests}
use Rattle.std.proofs.lemmas.List.Sums.{count_by-le-length, length-filter}
use Rattle.std.proofs.lemmas.Option.{none-some, slice_get_past, slice_get_within}
use Rattle.ps_words.specs.declared.fault.Fault.{Fault}
use Rattle.ps_words.specs.declared.fault.Reason.{Reason}
use Rattle.ps_words.specs.declared.order.Order.{Order}
use Rattle.ps_codefile.specs.Dictionary.{entry_at, role_of}
use Rattle.ps_codefile.specs.Roles.{is_empty}
use Rattle.ps_codefile.specs.declared.entry.Role.{Role}
use Rattle.ps_codefile.specs.declared.entry.Role.TheVariants as role
use Rattle.ps_codefile.specs.declared.dictionary_layout.TheConstants.{FIRST_ADDED, SLOTS}
use Rattle.ps_reading.specs.Added.{RoundsOutcome, all_unit_references, empty_slots, request_of, requested_from}
use Rattle.ps_reading.specs.Faults.{is_role, request_fault, source_fault}
use Rattle.ps_reading.specs.KnownSegments.{is_in_slot, segment_in_slot, segments_in_slots}
use Rattle.ps_reading.specs.Readings.{all_read, fault_of_added, read_requests, read_rounds, read_segment, read_segments, slot_after, slot_fault, slot_reading, slot_request, wanted_request}
use Rattle.ps_reading.specs.Requests.{request_by_slot}
use Rattle.ps_reading.specs.Sources.{Segment, own_segment, units_of}
use Rattle.ps_reading.specs.Standing.Slots.{HasRole}
use Rattle.ps_reading.specs.declared.reading.added.TheConstants.{MAX_ADDED, MAX_REQUESTED}
use Rattle.ps_reading.specs.declared.reading.added.UnitReference.{UnitReference}
use Rattle.ps_reading.proofs.BySlot.{empty_are, empty_ascend}
use Rattle.ps_reading.proofs.EachRound.{request_parts, source_made, unit_there}
use Rattle.ps_reading.proofs.EachSegment.{own_made}
use Rattle.ps_reading.proofs.InSlots.{InPlace, found_there}
use Rattle.ps_lists.proofs.Items.{In, find_passes, of_all, of_numbered}
use Rattle.ps_reading.proofs.ReadingKnown.{own_parts}
use Rattle.ps_reading.proofs.ReadingSources.{IsOwn, own_fault, read_from_host}
use Rattle.ps_reading.proofs.RequestQueue.{references_both, requested-append}
use Rattle.ps_reading.proofs.Requested.{of_empty, of_other}
use Rattle.ps_reading.proofs.RequestedSegments.{wanted_is, wanted_segment}
use Rattle.ps_lists.proofs.Places.{in_front, of_find, of_kept}
use Rattle.ps_check_segments.proofs.RoundTurns.{Rests, Turn, found_at, found_by_slot, in_slots, is_brought, names, one_place, turns}

module _ (order : Order) (host : List ℕ) (libs : List (List ℕ)) where
  -- the rounds of the segments that were read
  abbrev pub own : List Segment
  own = read_segments order host libs

  abbrev pub outcome : RoundsOutcome
  outcome = read_rounds order host libs

  abbrev pub all : List Segment
  all = all_read order host libs

  abbrev pub empty : List ℕ
  empty = empty_slots order host

  abbrev pub requested : List UnitReference
  requested = names order host libs (units_of own)
      (requested_from (units_of own) [] (all_unit_references own)) outcome

  pub requests_are : read_requests order host libs ≡ take MAX_REQUESTED requested
  unfolding read_requests
  requests_are = ap (λ (gs : List UnitReference). take MAX_REQUESTED
      (requested_from (units_of own) [] gs)) (references_both own outcome.added)
      ∙ ap (λ (gs : List UnitReference). take MAX_REQUESTED gs)
      (requested-append (units_of own) [] (all_unit_references own)
      (all_unit_references outcome.added))

  few : (j slot : ℕ) → slice_get empty j ≡ Some slot → j < MAX_REQUESTED
  unfolding empty_slots
  few j slot e = omega (
    arith,
    slice_get_within empty j slot e,
    length-filter (is_role is_empty order host) (range_with_len FIRST_ADDED MAX_ADDED),
    count_by-le-length (is_role is_empty order host) (range_with_len FIRST_ADDED MAX_ADDED),
  )

  turn_at : (j slot : ℕ) → slice_get empty j ≡ Some slot
      → Turn order host libs (units_of own) outcome requested j j slot
  unfolding read_rounds
  turn_at j slot e = turns order host libs (units_of own) empty 0
      (requested_from (units_of own) [] (all_unit_references own)) j j slot (omega arith) e

  pub added_slots : (i : ℕ) (s : Segment) → slice_get outcome.added i ≡ Some s
      → slice_get empty i ≡ Some s.slot
  unfolding read_rounds
  added_slots = in_slots order host libs (units_of own) empty 0
      (requested_from (units_of own) [] (all_unit_references own))

  -- segments by their slots
  abbrev is_free : ℕ → Bool
  is_free slot = is_role is_empty order host slot

  free : (slot : ℕ) → HasRole order host slot role.Empty → is_free slot ≡ true
  free slot h = rw h

  not_free : (slot : ℕ) (r : Role) → HasRole order host slot r → r ≢ role.Empty
      → is_free slot ≡ false
  not_free slot role.Empty h other = absurd (other refl)
  not_free slot r h other = rw h

  pub own_in_place : InPlace (read_segment order host libs)
  own_in_place i s h = elim (cases_Bool (is_none (source_fault order host libs i))) [
    | inl is ↦ (own_parts order host libs i s (rw is at h)).0
    | inr other ↦ absurd (none-some s (rw other at h))
  ]

  in_place : InPlace (segment_in_slot order host own outcome.added)
  in_place i s h = by (find (is_in_slot i) own) refl (is_free i) refl
    where
      of : (xs : List Segment) → find (is_in_slot i) xs ≡ Some s → s.slot ≡ i
      of xs e = grind (arith, find_passes (is_in_slot i) xs s e)

      by : (o : Option Segment) → find (is_in_slot i) own ≡ o → (b : Bool) → is_free i ≡ b
          → s.slot ≡ i
      by (Some x) e b d = of own (e ∙ (rw e at h))
      by None e true d = of outcome.added (rw (e, d) at h)
      by None e false d = let wrong : None ≡ Some s = rw (e, d) at h in cc

  pub found_own : (i : ℕ) → i < SLOTS → find (is_in_slot i) own ≡ read_segment order host libs i
  unfolding read_segments
  found_own i h = found_there (read_segment order host libs) own_in_place i SLOTS 0 (omega arith) h

  pub found_all : (i : ℕ) → i < SLOTS
      → find (is_in_slot i) all ≡ segment_in_slot order host own outcome.added i
  unfolding all_read segments_in_slots
  found_all i h = found_there (segment_in_slot order host own outcome.added) in_place i SLOTS 0
      (omega arith) h

  -- each segment that was read is found by its slot
  pub segment_found : (k : ℕ) (q : Segment) → slice_get all k ≡ Some q
      → (q.slot < SLOTS) × (find (is_in_slot q.slot) all ≡ Some q)
  unfolding all_read segments_in_slots
  segment_found k q e =
      let t = of_kept (segment_in_slot order host own outcome.added) 0 SLOTS k q e in
      let here = in_place t.0 q t.3 in (
        omega (arith, here, t.2),
        subst (λ (n : ℕ). find (is_in_slot n) all ≡ Some q) (sym here)
            (found_all t.0 (omega (arith, t.2)) ∙ t.3),
      )

  or_none : (o : Option Segment) → option_or o None ≡ o
  or_none None = refl
  or_none (Some s) = refl

  -- of a slot that is not empty its own, and of an empty one that which was added
  found_of_own : (i : ℕ) → i < SLOTS → is_free i ≡ false
      → find (is_in_slot i) all ≡ read_segment order host libs i
  found_of_own i h other = grind (arith, found_all i h, found_own i h, or_none)

  none_own : (i : ℕ) → HasRole order host i role.Empty → own_segment order host libs i ≡ None
  none_own i h = rw h

  pub found_of_free : (i : ℕ) → i < SLOTS → HasRole order host i role.Empty
      → find (is_in_slot i) all ≡ find (is_in_slot i) outcome.added
  found_of_free i h is =
      grind (arith, found_all i h, found_own i h, free i is, none_own i is)

  -- no fault of an added unit is that of a slot that is not among the empty ones
  other_fault : (slot : ℕ) → ((j : ℕ) → slice_get empty j ≡ Some slot → ⊥)
      → fault_of_added outcome empty slot ≡ None
  other_fault slot none = by (slot_after outcome empty) refl
    where
      by : (o : Option ℕ) → slot_after outcome empty ≡ o
          → (if option_map_or (λ next. next == slot) o false then outcome.fault else None) ≡ None
      by None e = refl
      by (Some next) e = elim (cases_Bool (next == slot)) [
        | inl is ↦ absurd (none (length outcome.added)
            (e ∙ ap (λ (k : ℕ). Some k) (eqb-true next slot is)))
        | inr other ↦ rw other
      ]

  not_among : (slot : ℕ) → is_free slot ≡ false → (j : ℕ) → slice_get empty j ≡ Some slot → ⊥
  not_among slot other j e = let is = of_all (λ (i : ℕ). is_free i ≡ true) empty
      (empty_are order host libs) j slot e in
      false≢true (sym other ∙ is)

  fault_of_own : (slot : ℕ) → is_free slot ≡ false
      → slot_fault order host libs slot ≡ source_fault order host libs slot
  fault_of_own slot other = grind (arith, other_fault slot (not_among slot other))

  no_source_fault : (slot : ℕ) → HasRole order host slot role.Empty
      → source_fault order host libs slot ≡ None
  no_source_fault slot h = rw h

  -- what is read of a slot with this fault or none, where this segment is in it, or none
  abbrev read_as : Option Fault → Option Segment → Option (Result Segment Fault)
  read_as o s = elim o [ Some f ↦ Some (Err f) | None ↦ option_map Ok s ]

  reading_is : (slot : ℕ) (f : Option Fault) (s : Option Segment)
      → slot_fault order host libs slot ≡ f → find (is_in_slot slot) all ≡ s
      → slot_reading order host libs slot ≡ read_as f s
  reading_is slot f s e d = ap (λ (o : Option Fault). read_as o (find (is_in_slot slot) all)) e
      ∙ ap (read_as f) d

  -- a slot that is not empty
  in_host : (slot : ℕ) (r : Role) → HasRole order host slot r → IsOwn r
      → source_fault order host libs slot ≡ None → own_segment order host libs slot ≡ None → ⊥
  in_host slot r h is fine none = source_made order host libs slot
      (entry_at order host slot).name r (0, slot)
      (sym (own_fault order host libs slot r h is) ∙ fine)
      (sym (read_from_host order host libs slot r h is) ∙ none)

  own_there : (slot : ℕ) (r : Role) → HasRole order host slot r → r ≢ role.Empty
      → source_fault order host libs slot ≡ None → own_segment order host libs slot ≡ None → ⊥
  own_there slot role.Empty h other fine none = other refl
  own_there slot role.Plain h other fine none = in_host slot role.Plain h (inl refl) fine none
  own_there slot role.Host h other fine none = in_host slot role.Host h (inr (inl refl)) fine none
  own_there slot role.Unit h other fine none = in_host slot role.Unit h (inr (inr refl)) fine none
  own_there slot role.Wanted h other fine none =
      let r = request_by_slot order host slot in
      let parts = request_parts order host libs r
      (sym (wanted_is order host libs slot h) ∙ fine) in
      grind (
        arith,
        wanted_segment order host libs slot h,
        unit_there order r.name libs parts.0,
        source_made,
        parts.2,
      )

  -- the own segment, and no fault, or a fault, and no segment
  abbrev pub OwnRead : ℕ → Role → Type 0
  OwnRead slot r = (s : Segment) × (slot_reading order host libs slot ≡ Some (Ok s))
      × (find (is_in_slot slot) all ≡ Some s) × (s.added ≡ false) × (s.role ≡ r)
      × (s.name ≡ (entry_at order host slot).name)

  abbrev pub OwnRefused : ℕ → Type 0
  OwnRefused slot = (f : Fault) × (slot_reading order host libs slot ≡ Some (Err f))
      × (find (is_in_slot slot) all ≡ None)

  own_facts : (slot : ℕ) (r : Role) (s : Segment) → HasRole order host slot r
      → own_segment order host libs slot ≡ Some s
      → (s.added ≡ false) × (s.role ≡ r) × (s.name ≡ (entry_at order host slot).name)
  own_facts slot r s h e = let t = own_made order host libs slot s e in
      let is : t.0 ≡ r = grind arith in (
        ap (λ (q : Segment). q.added) t.3.is,
        ap (λ (q : Segment). q.role) t.3.is ∙ is,
        ap (λ (q : Segment). q.name) t.3.is,
      )

  pub own_read : (slot : ℕ) (r : Role) → slot < SLOTS → HasRole order host slot r → r ≢ role.Empty
      → OwnRead slot r ⊎ OwnRefused slot
  own_read slot r low h other = by (source_fault order host libs slot) refl
      (own_segment order host libs slot) refl
    where
      taken : is_free slot ≡ false
      taken = not_free slot r h other

      there : find (is_in_slot slot) all ≡ read_segment order host libs slot
      there = found_of_own slot low taken

      by : (f : Option Fault) → source_fault order host libs slot ≡ f → (o : Option Segment)
          → own_segment order host libs slot ≡ o → OwnRead slot r ⊎ OwnRefused slot
      by (Some f) e o d = let none = there ∙ (rw e) in
          inr (f, reading_is slot (Some f) None (fault_of_own slot taken ∙ e) none, none)
      by None e None d = absurd (own_there slot r h other e d)
      by None e (Some s) d = let t = own_facts slot r s h d in
          let found : find (is_in_slot slot) all ≡ Some s = there ∙ (rw (e, d)) in
          inl (
            s,
            reading_is slot None (Some s) (fault_of_own slot taken ∙ e) found,
            found,
            t.0,
            t.1,
            t.2,
          )

  -- an empty slot
  -- of the slot at j the name at j is kept, and it is requested for this slot
  kept_at : (j slot : ℕ) → slice_get empty j ≡ Some slot
      → slice_get (read_requests order host libs) j ≡ slice_get requested j
  kept_at j slot e = ap (λ (gs : List UnitReference). slice_get gs j) requests_are
      ∙ in_front MAX_REQUESTED requested j (few j slot e)

  requests_at : (j slot : ℕ) → HasRole order host slot role.Empty → slice_get empty j ≡ Some slot
      → slot_request order host libs slot
      ≡ option_map (λ g. request_of g slot) (slice_get requested j)
  requests_at j slot is e = of_empty order host libs slot (free slot is)
      ∙ (ap (option_and_then (λ (k : ℕ × ℕ). option_map (λ (g : UnitReference). request_of g slot)
      (slice_get (read_requests order host libs) k.0)))
      (found_at 0 0 j j slot empty (empty_ascend order host libs) (omega arith) e)
      ∙ ap (option_map (λ (g : UnitReference). request_of g slot)) (kept_at j slot e))

  pub added_found : (j slot : ℕ) → slice_get empty j ≡ Some slot
      → find (is_in_slot slot) outcome.added ≡ slice_get outcome.added j
  added_found j slot e = found_by_slot 0 outcome.added empty j slot (empty_ascend order host libs)
      added_slots e

  -- the fault is that of the slot that is next after those with a segment
  fault_at : (j slot : ℕ) → slice_get empty j ≡ Some slot → length outcome.added ≡ j
      → fault_of_added outcome empty slot ≡ outcome.fault
  fault_at j slot e last = let next : slot_after outcome empty ≡ Some slot =
      ap (λ (k : ℕ). slice_get empty k) last ∙ e in
      rw next (grind (arith, nat_tests))

  no_fault_at : (j slot : ℕ) → slice_get empty j ≡ Some slot → (length outcome.added ≡ j → ⊥)
      → fault_of_added outcome empty slot ≡ None
  no_fault_at j slot e apart = by (slot_after outcome empty) refl
    where
      by : (o : Option ℕ) → slot_after outcome empty ≡ o
          → (if option_map_or (λ next. next == slot) o false then outcome.fault else None) ≡ None
      by None d = refl
      by (Some next) d = elim (cases_Bool (next == slot)) [
        | inl is ↦ absurd (apart (one_place 0 empty (length outcome.added) j slot
            (empty_ascend order host libs)
            (d ∙ ap (λ (k : ℕ). Some k) (eqb-true next slot is)) e))
        | inr other ↦ rw other
      ]

  -- a unit that is requested: its segment was added, or it is refused, or the rounds ended before
  abbrev pub AddedRead : ℕ → UnitReference → Type 0
  AddedRead slot g = (s : Segment) × (slot_reading order host libs slot ≡ Some (Ok s))
      × (find (is_in_slot slot) all ≡ Some s) × (s.added ≡ true) × (s.role ≡ role.Wanted)
      × (s.name ≡ g.name)

  abbrev pub AddedRefused : ℕ → UnitReference → Type 0
  AddedRefused slot g = (f : Fault) × (slot_reading order host libs slot ≡ Some (Err f))
      × (find (is_in_slot slot) all ≡ None)
      × (request_fault order host libs (request_of g slot) ≡ Some f)

  abbrev pub AddedLeft : ℕ → Type 0
  AddedLeft slot = (slot_reading order host libs slot ≡ None)
      × (find (is_in_slot slot) all ≡ None) × ((f : Fault) × (outcome.fault ≡ Some f))

  abbrev pub Requested : ℕ → UnitReference → Type 0
  Requested slot g = (slot_request order host libs slot ≡ Some (request_of g slot))
      × In g (read_requests order host libs)

  abbrev pub Unread : ℕ → Type 0
  Unread slot = (slot_reading order host libs slot ≡ None) × (find (is_in_slot slot) all ≡ None)
      × (slot_request order host libs slot ≡ None)

  abbrev pub EmptyRead : ℕ → Type 0
  EmptyRead slot = ((g : UnitReference) × Requested slot g
      × (AddedRead slot g ⊎ (AddedRefused slot g ⊎ AddedLeft slot))) ⊎ Unread slot

  free_fault : (slot : ℕ) → HasRole order host slot role.Empty
      → slot_fault order host libs slot ≡ fault_of_added outcome empty slot
  free_fault slot is = ap (λ (o : Option Fault). option_or o (fault_of_added outcome empty slot))
      (no_source_fault slot is)

  read_of_free : (slot : ℕ) → slot < SLOTS → HasRole order host slot role.Empty
      → (o : Option Fault) (s : Option Segment) → fault_of_added outcome empty slot ≡ o
      → find (is_in_slot slot) outcome.added ≡ s
      → (slot_reading order host libs slot ≡ read_as o s) × (find (is_in_slot slot) all ≡ s)
  read_of_free slot low is o s e d = let found = found_of_free slot low is ∙ d in
      (reading_is slot o s (free_fault slot is ∙ e) found, found)

  empty_read_at : (j slot : ℕ) → slot < SLOTS → HasRole order host slot role.Empty
      → slice_get empty j ≡ Some slot → EmptyRead slot
  empty_read_at j slot low is e = by (turn_at j slot e) (slice_get requested j) refl
    where
      asked : (o : Option UnitReference) → slice_get requested j ≡ o
          → slot_request order host libs slot ≡ option_map (λ g. request_of g slot) o
      asked o d = requests_at j slot is e
          ∙ ap (option_map (λ (g : UnitReference). request_of g slot)) d

      named : (g : UnitReference) → slice_get requested j ≡ Some g → Requested slot g
      named g d = (asked (Some g) d, (j, kept_at j slot e ∙ d))

      none_added : length outcome.added ≤ j → find (is_in_slot slot) outcome.added ≡ None
      none_added past = added_found j slot e ∙ slice_get_past outcome.added j past

      rests : (t : Rests order host libs (units_of own) outcome requested j j)
          → fault_of_added outcome empty slot ≡ None
      rests t = elim (cases_eq (length outcome.added) j) [
        | inl last ↦ fault_at j slot e last ∙ t.fine last
        | inr apart ↦ no_fault_at j slot e apart
      ]

      by : Turn order host libs (units_of own) outcome requested j j slot
          → (o : Option UnitReference)
          → slice_get requested j ≡ o → EmptyRead slot
      by (inl t) o d =
          let within = slice_get_within outcome.added j t.s t.there in
          let read = read_of_free slot low is None (Some t.s)
          (no_fault_at j slot e (λ last. omega (arith, last, within)))
          (added_found j slot e ∙ t.there) in
          let made = is_brought order host libs t.g slot t.s t.brings in
          inl (
            t.g,
            named t.g t.name,
            inl (t.s, read.0, read.1, made.is_added, made.role_is, made.name_is),
          )
      by (inr (inl t)) o d =
          let read = read_of_free slot low is (Some t.f) None
          (fault_at j slot e t.last ∙ t.fault) (none_added (omega (arith, t.last))) in
          inl (t.g, named t.g t.name, inr (inl (t.f, read.0, read.1, t.refused)))
      by (inr (inr t)) None d =
          let read = read_of_free slot low is None None (rests t) (none_added t.past) in
          inr (read.0, read.1, asked None d)
      by (inr (inr t)) (Some g) d =
          let read = read_of_free slot low is None None (rests t) (none_added t.past) in
          inl (g, named g d, inr (inr (read.0, read.1, t.ended g d)))

  -- a slot that no unit is added in
  empty_unread : (slot : ℕ) → slot < SLOTS → HasRole order host slot role.Empty
      → find (λ (k : ℕ × ℕ). k.1 == slot) (enumerate_from 0 empty) ≡ None → Unread slot
  empty_unread slot low is none =
      let read = read_of_free slot low is None None (other_fault slot not_one) none_there in (
        read.0,
        read.1,
        of_empty order host libs slot (free slot is)
            ∙ ap (option_and_then (λ (k : ℕ × ℕ). option_map (λ (g : UnitReference). request_of g slot)
            (slice_get (read_requests order host libs) k.0))) none,
      )
    where
      not_one : (j : ℕ) → slice_get empty j ≡ Some slot → ⊥
      not_one j e = none-some {A = ℕ × ℕ} (j, slot) (sym none
          ∙ found_at 0 0 j j slot empty (empty_ascend order host libs) (omega arith) e)

      none_there : find (is_in_slot slot) outcome.added ≡ None
      none_there = by (find (is_in_slot slot) outcome.added) refl
        where
          by : (o : Option Segment) → find (is_in_slot slot) outcome.added ≡ o → o ≡ None
          by None e = refl
          by (Some s) e = let t = of_find (is_in_slot slot) outcome.added s e in
              let here = eqb-true s.slot slot (find_passes (is_in_slot slot) outcome.added s e) in
              absurd (not_one t.0 (added_slots t.0 s t.1 ∙ ap (λ (k : ℕ). Some k) here))

  pub empty_read : (slot : ℕ) → slot < SLOTS → HasRole order host slot role.Empty → EmptyRead slot
  empty_read slot low is =
      by (find (λ (k : ℕ × ℕ). k.1 == slot) (enumerate_from 0 empty)) refl
    where
      by : (o : Option (ℕ × ℕ)) → find (λ (k : ℕ × ℕ). k.1 == slot) (enumerate_from 0 empty) ≡ o
          → EmptyRead slot
      by None e = inr (empty_unread slot low is e)
      by (Some p) e =
          let t = of_find (λ (k : ℕ × ℕ). k.1 == slot) (enumerate_from 0 empty) p e in
          let there = of_numbered 0 empty t.0 p t.1 in
          let same = eqb-true p.1 slot (find_passes (λ (k : ℕ × ℕ). k.1 == slot)
          (enumerate_from 0 empty) p e) in
          empty_read_at t.0 slot low is (there.1 ∙ ap (λ (k : ℕ). Some k) same)

  -- a slot whose kind is refused
  pub refused_read : (slot : ℕ) (why : Reason) → slot < SLOTS
      → role_of (entry_at order host slot) ≡ Err why → Unread slot
  refused_read slot why low h =
      let taken : is_free slot ≡ false = rw h in
      let fine : source_fault order host libs slot ≡ None = rw h in
      let own_none : own_segment order host libs slot ≡ None = rw h in
      let none : read_segment order host libs slot ≡ None =
      ap (λ (o : Option Fault). if is_none o then own_segment order host libs slot else None) fine
      ∙ own_none in
      let found = found_of_own slot low taken ∙ none in (
        reading_is slot None None (fault_of_own slot taken ∙ fine) found,
        found,
        of_other order host libs slot taken ∙ (rw h),
      )

  -- requests
  pub request_of_own : (slot : ℕ) (r : Role) → HasRole order host slot r → r ≢ role.Empty
      → slot_request order host libs slot ≡ wanted_request order host slot r
  request_of_own slot r h other = of_other order host libs slot (not_free slot r h other) ∙ (rw h)
