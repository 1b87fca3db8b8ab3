-- What is known of the segments of a link once the files were read without a fault: they rise by
-- slot, and one of them is the host's own.
use Rattle.ps_reading.proofs.Vocabulary.{◌≡◌, ℕ, zero, suc, ◌+◌, ◌<◌, ◌≤◌, List, [], ◌∷◌, map, length, get_or, Bool, true, false, ◌&&◌, not, Option, Some, None, is_some, Result, Ok, refl, sym, ◌∙◌, ap, arith, All, range_with_len, filter_map, find, list_any, option_map, option_map_or, result_ok, and_from, false≢true, list_any_at, get_or-range_with_len, length-range_with_len, same_Some, in_slot, Order, Reason, Fault, Role, entry_at, role_of, slots, first_of, fault_if, is_host, is_empty, Segment, own_segment, segment_from, host_of, AscendFrom, HasOneHost, SLOTS}
use Rattle.ps_codefile.specs.declared.entry.Role.TheVariants as role
use Rattle.ps_reading.specs.Added.{segment_at, segments, added_segments}
use Rattle.ps_reading.specs.Faults.{is_role, slot_reason, slots_fault, no_host_fault, sources_fault, source_fault}
use Rattle.ps_reading.proofs.EachRound.{source_made}
use Rattle.ps_reading.proofs.EachSegment.{at_slot, each_slot, find_has, own_made}
use Rattle.ps_reading.proofs.FirstSlots.{any_found, neither_first, neither_second, none_mapped}
use Rattle.ps_reading.proofs.OfRounds.{each_added}
use Rattle.ps_reading.proofs.ReadingSources.{own_fault, read_from_host, is_own_host}

-- no other is
stands_not : {X : Type 0} (b : Bool) (x : X) → fault_if b x ≡ None → b ≡ false
stands_not b x h = grind arith

-- where none of a range of numbers has a fault, each has none
pub none_at : {X : Type 0} (f : ℕ → Option X) (a n i : ℕ)
    → first_of f (range_with_len a n) ≡ None → a ≤ i → i < a + n → f i ≡ None
none_at f a zero i none low high = absurd (omega arith)
none_at f a (suc n) i none low high =
    grind (arith, neither_first, neither_second, none_at f (a + 1) n i)

module _ (order : Order) (host : List ℕ) (libs : List (List ℕ)) where
  -- the own segment of a slot is in the slot and has the role of it
  pub own_parts : (slot : ℕ) (s : Segment) → own_segment order host libs slot ≡ Some s
      → (s.slot ≡ slot) × (result_ok (role_of (entry_at order host slot)) ≡ Some s.role)
  own_parts slot s h = grind (arith, own_made order host libs slot s h)

  abbrev IsWanted : Segment → Type 0
  IsWanted s = s.role ≡ role.Wanted

  -- each added segment has the role of a wanted unit
  added_wanted : All IsWanted (added_segments order host libs)
  added_wanted = grind (arith, each_added order host libs IsWanted)

  -- a slot whose role is Empty has not that of the host
  empty_role : (q : Result Role Reason) → option_map_or is_empty (result_ok q) false ≡ true
      → option_map_or is_host (result_ok q) false ≡ false
  empty_role q h = grind arith

  -- the segment of a slot, its own or one that was added there, is in the slot and is the host's
  -- just where the slot's role is
  pub slot_parts : (slot : ℕ) (s : Segment) → segment_at order host libs slot ≡ Some s
      → (s.slot ≡ slot) × (is_role is_host order host slot ≡ is_host s.role)
  slot_parts slot s h =
      grind (
        arith,
        at_slot order host libs IsWanted added_wanted slot s h,
        own_parts slot s,
        empty_role (role_of (entry_at order host slot)),
      )

  host_role : (slot : ℕ) (s : Segment) → segment_at order host libs slot ≡ Some s
      → is_role is_host order host slot ≡ is_host s.role
  host_role slot s h = grind (arith, slot_parts)

  -- what passes the test for the role of the host is the role Host
  host_of_role : (q : Result Role Reason) → option_map_or is_host (result_ok q) false ≡ true
      → q ≡ Ok role.Host
  host_of_role q h = grind arith

  -- a slot with the role of the host has a segment, where its source has no fault
  slot_host : (slot : ℕ) → source_fault order host libs slot ≡ None
      → is_role is_host order host slot ≡ true
      → (s : Segment) × (segment_at order host libs slot ≡ Some s)
  slot_host slot none is = by (segment_from order host libs slot name role.Host (0, slot)) refl
    where
      name : List ℕ
      name = (entry_at order host slot).name

      of : role_of (entry_at order host slot) ≡ Ok role.Host
      of = grind (arith, host_of_role)

      by : (o : Option Segment) → segment_from order host libs slot name role.Host (0, slot) ≡ o
          → (s : Segment) × (segment_at order host libs slot ≡ Some s)
      by None e = absurd (source_made order host libs slot name role.Host (0, slot)
          (sym (own_fault order host libs slot role.Host of is_own_host) ∙ none) e)
      by (Some s) e = (
        s,
        grind (arith, read_from_host, is_own_host, of),
      )

  -- where one of these slots has the role of the host, and no source a fault, one of their segments
  -- is a host's
  found_host : (xs : List ℕ) → list_any (is_role is_host order host) xs ≡ true
      → first_of (source_fault order host libs) xs ≡ None
      → is_some (find (λ (s : Segment). is_host s.role)
      (filter_map (segment_at order host libs) xs)) ≡ true
  found_host [] any none = any
  found_host (x ∷ xs) any none =
      by (λ a. found_host xs a
      (neither_second (source_fault order host libs x)
      (first_of (source_fault order host libs) xs) none)) (segment_at order host libs x) refl
      (is_role is_host order host x) refl
    where
      by : (list_any (is_role is_host order host) xs ≡ true
          → is_some (find (λ (s : Segment). is_host s.role)
          (filter_map (segment_at order host libs) xs)) ≡ true)
          → (o : Option Segment) → segment_at order host libs x ≡ o → (b : Bool)
          → is_role is_host order host x ≡ b
          → is_some (find (λ (s : Segment). is_host s.role)
          (filter_map (segment_at order host libs) (x ∷ xs))) ≡ true
      by rest None o true b =
          let there = slot_host x
          (neither_first (source_fault order host libs x)
          (first_of (source_fault order host libs) xs) none) b in
          cc
      by rest None o false b = rw o (rest (rw b at any))
      by rest (Some s) o true b = let h : is_host s.role ≡ true =
          sym (host_role x s o) ∙ b in rw (o, h)
      by rest (Some s) o false b = let h : is_host s.role ≡ false =
          sym (host_role x s o) ∙ b in rw (o, h) (rest (rw b at any))

  is_there : (b : Bool) (fault : Fault) → fault_if (not b) fault ≡ None → b ≡ true
  is_there b fault h = grind arith

  -- one of the segments is the host's own
  pub host_there : no_host_fault order host ≡ None → sources_fault order host libs ≡ None
      → is_some (host_of (segments order host libs)) ≡ true
  unfolding no_host_fault sources_fault segments
  host_there has none = found_host slots (is_there _ _ has) none

  -- the segments rise by slot
  ascend_from : (n a from : ℕ) → from ≤ a → AscendFrom from (map (λ (s : Segment). s.slot)
      (filter_map (segment_at order host libs) (range_with_len a n)))
  ascend_from zero a from le = tt
  ascend_from (suc n) a from le =
      by (λ next l. ascend_from n (a + 1) next l) (segment_at order host libs a) refl
    where
      by : ((next : ℕ) → next ≤ a + 1 → AscendFrom next (map (λ (s : Segment). s.slot)
          (filter_map (segment_at order host libs) (range_with_len (a + 1) n))))
          → (o : Option Segment) → segment_at order host libs a ≡ o
          → AscendFrom from (map (λ (s : Segment). s.slot)
          (filter_map (segment_at order host libs) (a ∷ range_with_len (a + 1) n)))
      by rest None o = rw o (rest from (omega arith))
      by rest (Some s) o =
          let is = (slot_parts a s o).0 in
          grind arith

  pub ascend : AscendFrom 0 (map (λ (s : Segment). s.slot) (segments order host libs))
  unfolding segments
  ascend = ascend_from SLOTS 0 0 (omega arith)

  -- a segment is that of its slot
  abbrev IsAt : Segment → Type 0
  IsAt s = (s.slot < SLOTS) × (segment_at order host libs s.slot ≡ Some s)

  pub all_at : All IsAt (segments order host libs)
  unfolding segments
  all_at =
      each_slot IsAt (segment_at order host libs) (λ x s lt h.
      let at = (slot_parts x s h).0 in
      grind arith)

  module _ (none : slots_fault order host ≡ None) where
    -- the second of two hosts would have a fault
    not_two : (s q : Segment) → IsAt s → IsAt q → is_host s.role ≡ true
        → is_host q.role ≡ true → s.slot < q.slot → ⊥
    unfolding slots_fault
    not_two s q a b u v lt =
        let test = is_role is_host order host in
        let fine = none_at (λ slot. option_map (in_slot 0 slot) (slot_reason order host slot)) 0
        SLOTS q.slot none (omega arith) (omega (arith, b.0)) in
        let reason = none_mapped (in_slot 0 q.slot) (slot_reason order host q.slot) fine in
        let two : (test q.slot && list_any test (range_with_len 0 q.slot)) ≡ false =
        stands_not _ _ (neither_first _ _ (neither_second _ _ reason)) in
        let earlier = ap test (get_or-range_with_len 0 q.slot s.slot 0 lt ∙ omega arith)
        ∙ host_role s.slot s a.1 ∙ u in
        let within : s.slot < length (range_with_len 0 q.slot) =
        omega (arith, length-range_with_len 0 q.slot, lt) in
        let there = list_any_at test (range_with_len 0 q.slot) s.slot 0 within earlier in
        false≢true (sym two ∙ and_from _ _ (host_role q.slot q b.1 ∙ v) there)

    pub one_host : HasOneHost (segments order host libs)
    one_host i d lt is = by (host_of segs) refl
      where
        segs : List Segment
        segs = segments order host libs

        s : Segment
        s = get_or segs i d

        test : Segment → Bool
        test q = is_host q.role

        same : (q : Segment) → IsAt q → is_host q.role ≡ true → q ≡ s
        same q h its = grind (arith, same_Some, s, all_at, not_two)

        by : (o : Option Segment) → find test segs ≡ o → o ≡ Some s
        by None e = absurd (false≢true
            (ap is_some (sym e) ∙ sym (any_found test segs) ∙ list_any_at test segs i d lt is))
        by (Some q) e =
            let has = find_has IsAt test segs q e all_at in
            grind (arith, same)
