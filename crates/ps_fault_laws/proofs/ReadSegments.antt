-- The segment that was read in a slot, where the sources of the host's own slots have no fault: that
-- of the link, if no round has a fault, or if it is of a round before the one that has.
use Rattle.ps_laws.proofs.Vocabulary.{◌≡◌, ◌∙◌, ◌==◌, ◌<◌, ◌≤◌, ◌⊎◌, ◌++◌, if◌then◌else◌, ℕ, Bool, true, false, List, Option, Some, None, arith, ap, inl, inr, refl, sym, find, slice_get, Decides-eqb, option_or, Order, is_empty, is_role, SLOTS, added_fault, added_segments, sources_fault, Segment, own_segment, in_empty, own_parts, slot_parts}
use Rattle.std.proofs.Common.{eqb-true}
use Rattle.std.proofs.lemmas.List.Folds.{find-append}
use Rattle.ps_reading.specs.Added.{rounds, segment_at, segments}
use Rattle.ps_reading.specs.KnownSegments.{is_in_slot, segment_in_slot, segments_in_slots}
use Rattle.ps_reading.specs.Readings.{all_read}
use Rattle.ps_reading.specs.Sources.{own_segments}
use Rattle.ps_reading.proofs.EachRound.{begins}
use Rattle.ps_reading.proofs.InSlots.{InPlace, found_there}
use Rattle.ps_reading.proofs.ReadingSlots.{all_are, read_are, rounds_are}
use Rattle.ps_lists.proofs.Items.{at_left, find_passes}
use Rattle.ps_laws.proofs.Looking.{find_none, is_there}
use Rattle.ps_laws.proofs.RequestedUnits.{empty_slot, found_added, not_own}

module _ (order : Order) (host : List ℕ) (libs : List (List ℕ)) where
  -- the segment was read in this slot
  abbrev pub IsReadIn : ℕ → Segment → Type 0
  IsReadIn slot s = find (is_in_slot slot) (all_read order host libs) ≡ Some s

  -- the segment of a link that is found in a slot is that of the slot
  in_its_slot : (slot : ℕ) → slot < SLOTS
      → find (is_in_slot slot) (segments order host libs) ≡ segment_at order host libs slot
  unfolding segments
  in_its_slot slot inside = found_there (segment_at order host libs)
      (λ j q e. (slot_parts order host libs j q e).0) slot SLOTS 0 (omega arith)
      (omega (arith, inside))

  module _ (sound : sources_fault order host libs ≡ None) (slot : ℕ) (inside : slot < SLOTS)
      (s : Segment) where
    -- where no round has a fault
    pub read_of_link : added_fault order host libs ≡ None
        → segment_at order host libs slot ≡ Some s → IsReadIn slot s
    read_of_link fine there =
        ap (find (is_in_slot slot)) (all_are order host libs sound fine)
        ∙ in_its_slot slot inside ∙ there

    -- the own segments, and those of the rounds before a fault
    abbrev added : List Segment
    added = (rounds order host libs).added

    abbrev in_slot : ℕ → Option Segment
    in_slot = segment_in_slot order host (own_segments order host libs) added

    in_place : InPlace in_slot
    in_place i q e = by (find (is_in_slot i) (own_segments order host libs)) refl
        (is_role is_empty order host i) refl
      where
        by : (o : Option Segment) → find (is_in_slot i) (own_segments order host libs) ≡ o
            → (b : Bool) → is_role is_empty order host i ≡ b → q.slot ≡ i
        by (Some t) own b empty =
            let same : Some t ≡ Some q = rw own at e in
            eqb-true q.slot i (find_passes (is_in_slot i) (own_segments order host libs) q
            (own ∙ same))
        by None own true empty =
            let same : find (is_in_slot i) added ≡ Some q = rw (own, empty) at e in
            eqb-true q.slot i (find_passes (is_in_slot i) added q same)
        by None own false empty = let none : None ≡ Some q = rw (own, empty) at e in cc

    was_read : in_slot slot ≡ Some s → IsReadIn slot s
    unfolding all_read segments_in_slots
    was_read e = rw (read_are order host libs sound, rounds_are order host libs sound)
        (found_there in_slot in_place slot SLOTS 0 (omega arith) (omega (arith, inside)) ∙ e)

    own_found : find (is_in_slot slot) (own_segments order host libs)
        ≡ own_segment order host libs slot
    unfolding own_segments
    own_found = found_there (own_segment order host libs)
        (λ j q e. (own_parts order host libs j q e).0) slot SLOTS 0 (omega arith)
        (omega (arith, inside))

    -- the own segment of the slot
    pub read_of_slot : own_segment order host libs slot ≡ Some s → IsReadIn slot s
    read_of_slot e = was_read (rw (own_found, e) refl)

    -- a segment of a round before the fault
    pub read_of_round : (j : ℕ) → slice_get added j ≡ Some s → s.slot ≡ slot → IsReadIn slot s
    read_of_round j e same = was_read (rw (own_found, not_own order host libs slot empty, empty) here)
      where
        all : added_segments order host libs ≡ added ++ (begins order host libs).0
        all = (begins order host libs).1

        there : slice_get (added_segments order host libs) j ≡ Some s
        there = ap (λ (l : List Segment). slice_get l j) all ∙ at_left added _ j s e

        empty : is_role is_empty order host slot ≡ true
        empty = ap (is_role is_empty order host) (sym same)
            ∙ (empty_slot order host j s.slot (in_empty order host libs j s there)).2

        -- a segment is found in the slot among them, and it is the first of all that are added
        some : (q : Segment) × (find (is_in_slot slot) added ≡ Some q)
        some = is_there (find (is_in_slot slot) added) (λ n. find_none (is_in_slot slot)
            (λ (q : Segment). q.slot ≡ slot) (λ q. Decides-eqb q.slot slot) added n
            (j, s, e, same))

        first : find (is_in_slot slot) (added_segments order host libs) ≡ Some s
        first =
            let found : segment_at order host libs slot ≡ Some s =
            ap (segment_at order host libs) (sym same) ∙ found_added order host libs j s there in
            rw (not_own order host libs slot empty, empty) at found

        here : find (is_in_slot slot) added ≡ Some s
        here =
            let others = (begins order host libs).0 in
            let longer = ap (find (is_in_slot slot)) all
            ∙ find-append (is_in_slot slot) added others in
            let same : Some some.0 ≡ Some s = rw some.1 at (sym longer ∙ first) in
            some.1 ∙ same
