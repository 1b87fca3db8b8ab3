-- What is known of each segment of a link whose files were read without a fault.
use Rattle.ps_reading.proofs.Vocabulary.{◌≡◌, ℕ, ◌<◌, List, get_or, Some, None, true, sym, ap, subst, ◌∙◌, inl, inr, is_some, arith, ◌⊎◌, option_and_then, entry_at, role_of, Role, added_fault, added_segments, as_added, request_of, segment_at, segments, AreOfLink, IsOfFile, IsOfSlot, IsOfRound, request_by_slot, Segment, host_of, order_of, source_of, own_segment, UnitReference, Order, SLOTS}
use Rattle.ps_codefile.specs.declared.entry.Role.TheVariants as role
use Rattle.ps_reading.specs.Readings.{reading_fault}
use Rattle.ps_reading.specs.Faults.{code_fault, role_fault, source_fault, sources_fault, slots_fault, no_host_fault}
use Rattle.ps_reading.specs.Standing.Slots.{HasRole}
use Rattle.ps_reading.proofs.EachSegment.{IsMade, added_made, at_slot, own_made}
use Rattle.ps_reading.proofs.FirstSlots.{none_mapped, ok_is, or_none}
use Rattle.ps_reading.proofs.ReadingKnown.{all_at, host_there, none_at, one_host}
use Rattle.ps_reading.proofs.EachRound.{request_parts}
use Rattle.ps_lists.proofs.Items.{In, all_in}
use Rattle.ps_reading.proofs.OfRounds.{segment_placed}

module _ (order : Order) (host : List ℕ) (libs : List (List ℕ)) where
  -- 1. the entry of a segment, whose code has no fault
  of_file : (slot : ℕ) (name : List ℕ) (r : Role) (place : ℕ × ℕ) (s : Segment)
      → IsMade order host libs slot name r place s
      → code_fault order host libs slot r place ≡ None → IsOfFile order host libs s
  of_file slot name r place s made fine = grind (arith, none_mapped, or_none)

  as_added_file : (s : Segment) → IsOfFile order host libs s
      → IsOfFile order host libs (as_added s)
  as_added_file s h = grind arith

  -- 2. a slot's own segment, where the sources have no fault
  module _ (fine : sources_fault order host libs ≡ None) where
    source_none : (slot : ℕ) → slot < SLOTS → source_fault order host libs slot ≡ None
    unfolding sources_fault
    source_none slot h = none_at (source_fault order host libs) 0 SLOTS slot fine (omega arith)
        (omega (arith, h))

    -- a slot has none by its role
    pub role_none : (slot : ℕ) → slot < SLOTS → (r : Role) → HasRole order host slot r
        → role_fault order host libs slot r ≡ None
    role_none slot inside r has = grind (arith, source_none slot inside)

    pub own_known : (slot : ℕ) (s : Segment) → slot < SLOTS
        → own_segment order host libs slot ≡ Some s
        → IsOfFile order host libs s × IsOfSlot order host libs s
    own_known slot s inside e =
        let t = own_made order host libs slot s e in
        let r = t.0 in
        let has = ok_is (role_of (entry_at order host slot)) r t.1 in
        let fits = role_none slot inside r has in
        let made = t.3 in (
          of_file slot (entry_at order host slot).name r t.2 s made
              (sym (ap (option_and_then (code_fault order host libs slot r)) t.4)
              ∙ by_role slot r fits),
          grind arith,
        )
      where
        by_role : (slot : ℕ) (r : Role) → role_fault order host libs slot r ≡ None
            → option_and_then (code_fault order host libs slot r)
            (source_of order host libs slot r) ≡ None
        by_role slot role.Wanted h =
            (request_parts order host libs (request_by_slot order host slot) h).2
        by_role slot other h = h

  -- 3. a segment that was added
  pub round_known : (j : ℕ) (g : UnitReference) (s : Segment) → IsOfRound order host libs j g s
      → IsOfFile order host libs s
  round_known j g s round =
      let made = added_made order host libs g s.slot s round.brought in
      let parts = request_parts order host libs (request_of g s.slot) round.fits in
      subst (IsOfFile order host libs) (sym made.2) (as_added_file made.1
      (of_file s.slot g.name role.Wanted made.0 made.1 made.3
      (sym (ap (option_and_then (code_fault order host libs s.slot role.Wanted)) made.4)
      ∙ parts.2)))

-- 4. each segment of a link
module _ (host : List ℕ) (libs : List (List ℕ)) (read : reading_fault host libs ≡ None) where
  abbrev order : Order
  order = order_of host

  parts : (slots_fault order host ≡ None) × (no_host_fault order host ≡ None)
      × (sources_fault order host libs ≡ None) × (added_fault order host libs ≡ None)
  unfolding reading_fault
  parts = grind (arith, or_none)

  pub slots_fine : slots_fault order host ≡ None
  slots_fine = parts.0

  pub sources_fine : sources_fault order host libs ≡ None
  sources_fine = parts.2

  pub rounds_fine : added_fault order host libs ≡ None
  rounds_fine = parts.3

  pub has_host : is_some (host_of (segments order host libs)) ≡ true
  has_host = host_there order host libs parts.1 parts.2

  abbrev IsKnown : Segment → Type 0
  IsKnown s = IsOfFile order host libs s
      × (IsOfSlot order host libs s ⊎
      ((j : ℕ) × (g : UnitReference) × IsOfRound order host libs j g s))

  known : (s : Segment) → s.slot < SLOTS → segment_at order host libs s.slot ≡ Some s
      → IsKnown s
  known s inside there =
      let added = added_segments order host libs in
      elim (at_slot order host libs (λ q. In q added) (all_in added) s.slot s there) [
        | inl own ↦ (let k = own_known order host libs parts.2 s.slot s inside own in
            (k.0, inl k.1))
        | inr t ↦ (let k = segment_placed order host libs parts.3 t.2.0 s t.2.1 in
            grind (arith, round_known))
      ]

  pub of_link : AreOfLink host libs (segments order host libs)
  of_link i d lt =
      let at = all_at order host libs i d lt in
      let s = get_or (segments order host libs) i d in
      let k = known s at.0 at.1 in
      record {
        slot = at.0;
        there = at.1;
        file = k.0;
        one_host = one_host order host libs parts.0 i d lt;
        requested = k.1;
      }
