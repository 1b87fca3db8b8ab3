-- Each segment that is added is brought in a turn, and where the rounds end without a fault each name
-- that is requested has its round.
use Rattle.ps_reading.proofs.Vocabulary.{◌≡◌, ℕ, ◌≤◌, List, ◌∷◌, ◌++◌, length, take, true, Some, None, sym, ap, subst, ◌∙◌, inl, inr, arith, ◌⊎◌, All, slice_get, cases_lt, none-some, slice_get-get_or, slice_get_past, Order, all_unit_references, empty_slots, placed_fault, as_added, added_segment, RoundsOutcome, requested_units, added_segments, added_fault, IsOfRound, Segment, segment_with, unit_source, UnitReference}
use Rattle.ps_codefile.specs.declared.entry.Role.TheVariants as role
use Rattle.ps_reading.proofs.EachRound.{IsTurn, all_rounds, is_brought, own_units, requested_rest, segments_before}
use Rattle.ps_reading.proofs.EachSegment.{added_made}
use Rattle.ps_lists.proofs.Items.{at_left, first_right, some_before}
use Rattle.ps_reading.proofs.KnownNames.{grown}

module _ (order : Order) (host : List ℕ) (libs : List (List ℕ)) where
  abbrev pub queue_of : List UnitReference
  queue_of = requested_units order host libs (added_segments order host libs)

  -- What is known of a segment that is added, whatever the faults: the turn in which it is brought.
  pub record IsOfTurn (j : ℕ) (g : UnitReference) (s : Segment) : Type 0 where
    pub earlier : slice_get (requested_units order host libs
        (take j (added_segments order host libs))) j ≡ Some g
    pub requested : slice_get queue_of j ≡ Some g
    pub there : slice_get (added_segments order host libs) j ≡ Some s
    pub slot : slice_get (empty_slots order host) j ≡ Some s.slot
    pub brought : added_segment order host libs g s.slot ≡ Some s
    pub name : s.name ≡ g.name
    pub role : s.role ≡ role.Wanted
    pub is_added : s.added ≡ true
    pub source : unit_source order s.name libs ≡ Some (s.file, s.index)

  -- the segment that is brought in a turn
  turn_is : (prefix others : List Segment) (k : ℕ) (g : UnitReference) (slot : ℕ) (s : Segment)
      → IsTurn order host libs prefix (s ∷ others) k g (Some slot)
      → added_segment order host libs g slot ≡ Some s → IsOfTurn k g s × (s.slot ≡ slot)
  turn_is prefix others k g slot s turn from =
      let before = segments_before order host libs prefix (s ∷ others) k turn.all turn.many in
      let requested = requested_units order host libs prefix in
      let more = grown (own_units order host libs) requested (all_unit_references (s ∷ others)) in
      let all : queue_of ≡ requested ++ more.0 = grind (arith, requested_rest) in
      let made = added_made order host libs g slot s from in
      let is : s ≡ as_added
      (segment_with order host libs slot g.name role.Wanted made.0 made.3.code) =
      made.2 ∙ ap as_added made.3.is in
      let name : s.name ≡ g.name = ap (λ (q : Segment). q.name) is in (
        record {
          earlier = grind arith;
          requested = ap (λ (gs : List UnitReference). slice_get gs k) all
              ∙ at_left requested more.0 k g turn.name;
          there = grind (arith, first_right);
          slot = grind arith;
          brought = grind arith;
          name = name;
          role = ap (λ (q : Segment). q.role) is;
          is_added = ap (λ (q : Segment). q.added) is;
          source = grind (arith, source_at);
        },
        ap (λ (q : Segment). q.slot) is,
      )
    where
      source_at : Segment → ℕ × ℕ
      source_at q = (q.file, q.index)

  -- an added segment is that of its turn
  pub segment_named : (j : ℕ) (s : Segment)
      → slice_get (added_segments order host libs) j ≡ Some s
      → (g : UnitReference) × IsOfTurn j g s
  segment_named j s e =
      let t = is_brought order host libs j s e in
      (t.0, (turn_is t.2 t.3 j t.0 t.1 s t.4 t.5).0)

  -- in the empty slot of the turn
  pub in_empty : (j : ℕ) (s : Segment) → slice_get (added_segments order host libs) j ≡ Some s
      → slice_get (empty_slots order host) j ≡ Some s.slot
  in_empty j s e = (segment_named j s e).1.slot

  -- what holds of the segment of each turn holds of all that are added
  pub each_added : (P : Segment → Type 0)
      → ((j : ℕ) (g : UnitReference) (s : Segment) → IsOfTurn j g s → P s)
      → All P (added_segments order host libs)
  each_added P h i d lt = grind (arith, segment_named, slice_get-get_or)

  -- no segment is added after the last
  none_after : (prefix : List Segment) (k : ℕ) → added_segments order host libs ≡ prefix
      → k ≡ length prefix → (j : ℕ) → k ≤ j
      → slice_get (added_segments order host libs) j ≡ None
  none_after prefix k is many j low = grind (arith, slice_get_past)

  -- no name is left
  no_name : (prefix : List Segment) (k : ℕ) → added_segments order host libs ≡ prefix
      → slice_get (requested_units order host libs prefix) k ≡ None
      → (j : ℕ) → k ≤ j → slice_get queue_of j ≡ None
  no_name prefix k is none j low = grind (arith, some_before)

  -- a round has a name and its segment, or neither
  abbrev pub HasRound : ℕ → Type 0
  HasRound j =
      ((g : UnitReference) × (s : Segment) × IsOfRound order host libs j g s)
      ⊎ ((slice_get queue_of j ≡ None)
      × (slice_get (added_segments order host libs) j ≡ None))

  -- a name that has no fault in its slot has its round
  round_is : (prefix others : List Segment) (k : ℕ) (g : UnitReference) (slot : ℕ)
      (s : Segment) → IsTurn order host libs prefix (s ∷ others) k g (Some slot)
      → placed_fault order host libs g slot ≡ None
      → added_segment order host libs g slot ≡ Some s → IsOfRound order host libs k g s
  round_is prefix others k g slot s turn fits from =
      let t = turn_is prefix others k g slot s turn from in
      record {
        earlier = t.0.earlier;
        requested = t.0.requested;
        there = t.0.there;
        slot = t.0.slot;
        fits = rw t.1 fits;
        brought = t.0.brought;
        name = t.0.name;
        role = t.0.role;
        is_added = t.0.is_added;
        source = t.0.source;
      }

  -- each round from this one on, where the rounds end without a fault
  abbrev HaveRounds : ℕ → RoundsOutcome → Type 0
  HaveRounds k r = r.fault ≡ None → (j : ℕ) → k ≤ j → HasRound j

  module _ (fine : added_fault order host libs ≡ None) where
    pub round_at : (j : ℕ) → HasRound j
    round_at j =
        all_rounds order host libs HaveRounds
        (λ prefix k is many none e j low. inr
        (no_name prefix k is none j low, none_after prefix k is many j low))
        (λ prefix others k g slot f turn is e j low. absurd (cc))
        (λ prefix others k g slot s rest turn fits from later e j low. elim (cases_lt k j) [
          | inl h ↦ later e j (omega (arith, h))
          | inr h ↦ subst HasRound (omega (arith, h, low))
              (inl (g, s, round_is prefix others k g slot s turn fits from))
        ]) fine j (omega arith)

    pub name_placed : (j : ℕ) (g : UnitReference) → slice_get queue_of j ≡ Some g
        → (s : Segment) × IsOfRound order host libs j g s
    name_placed j g e = elim (round_at j) [
      | inl t ↦ grind arith
      | inr n ↦ absurd (none-some g (sym n.0 ∙ e))
    ]

    -- an added segment is that of its round, which has no fault
    pub segment_placed : (j : ℕ) (s : Segment)
        → slice_get (added_segments order host libs) j ≡ Some s
        → (g : UnitReference) × IsOfRound order host libs j g s
    segment_placed j s e = elim (round_at j) [
      | inl t ↦ grind arith
      | inr n ↦ absurd (none-some s (sym n.1 ∙ e))
    ]
