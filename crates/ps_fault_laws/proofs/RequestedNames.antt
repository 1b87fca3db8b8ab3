-- The unit that is requested for an empty slot, where the sources of the host's own slots have no
-- fault: the k-th name that is looked up takes the k-th empty slot.
use Rattle.ps_laws.proofs.Vocabulary.{◌≡◌, ◌∙◌, ◌<◌, ◌≤◌, ◌+◌, ◌==◌, ◌∷◌, ◌++◌, [], ℕ, zero, suc, Bool, List, Some, None, arith, ap, refl, sym, take, filter, enumerate_from, find, range_with_len, slice_get, length, Segment, Order, FIRST_ADDED, is_empty, added_segments, all_unit_references, request_of, is_role, sources_fault, MAX_ADDED, UnitReference, IsRequested, own_units}
use Rattle.std.proofs.Common.{drop}
use Rattle.std.proofs.lemmas.List.{take-append-drop, take-append-le}
use Rattle.ps_reading.specs.Added.{empty_slots, requested_units, rounds}
use Rattle.ps_reading.specs.Readings.{queued_request, read_requests, slot_request}
use Rattle.ps_reading.specs.declared.reading.added.TheConstants.{MAX_REQUESTED}
use Rattle.ps_reading.proofs.EachRound.{begins, requested_rest}
use Rattle.ps_reading.proofs.KnownNames.{grown}
use Rattle.ps_reading.proofs.ReadingSlots.{read_are, rounds_are}
use Rattle.ps_reading.proofs.Requested.{of_empty}
use Rattle.ps_lists.proofs.Items.{at_left, in_front}
use Rattle.ps_laws.proofs.RequestedUnits.{empty_ascend, empty_slot}

-- the j-th number of a range from a on that passes a test is at least a + j
far : (test : ℕ → Bool) (a n i j : ℕ)
    → slice_get (filter test (range_with_len a n)) j ≡ Some i → a + j ≤ i
far test a zero i j e = absurd (cc)
far test a (suc n) i zero e = grind (arith, far test (a + 1) n i zero)
far test a (suc n) i (suc j) e = grind (arith, far test (a + 1) n i)

-- a number is found at its first place
found_first : (x : ℕ) (xs : List ℕ) (n k m : ℕ) → m ≡ n + k → slice_get xs k ≡ Some x
    → ((j : ℕ) → j < k → slice_get xs j ≡ Some x → ⊥)
    → find (λ p. p.1 == x) (enumerate_from n xs) ≡ Some (m, x)
found_first x [] n k m at e first = absurd (cc)
found_first x (y ∷ xs) n zero m at e first = grind arith
found_first x (y ∷ xs) n (suc k) m at e first =
    let later = found_first x xs (n + 1) k m (omega (arith, at)) e
    (λ j h. first (suc j) (omega (arith, h))) in
    let other = first zero (omega arith) in
    grind (arith, later, other)

module _ (order : Order) (host : List ℕ) (libs : List (List ℕ)) where
  -- there are fewer empty slots than names that are kept
  few : (k slot : ℕ) → slice_get (empty_slots order host) k ≡ Some slot → k < MAX_REQUESTED
  unfolding empty_slots
  few k slot e =
      let low = far (is_role is_empty order host) FIRST_ADDED MAX_ADDED slot k e in
      let high = (empty_slot order host k slot e).1 in
      omega (arith, low, high)

  -- no earlier empty slot is this one
  first_place : (k slot : ℕ) → slice_get (empty_slots order host) k ≡ Some slot → (j : ℕ)
      → j < k → slice_get (empty_slots order host) j ≡ Some slot → ⊥
  first_place k slot e j h u = let lt = empty_ascend order host j k slot slot h u e in
      omega (arith, lt)

  module _ (k : ℕ) (g : UnitReference) (requested : IsRequested order host libs k g)
      (before : k ≤ length (rounds order host libs).added) where
    abbrev added : List Segment
    added = (rounds order host libs).added

    -- the rounds before this one have no fault, so they add what is added
    same_added : take k added ≡ take k (added_segments order host libs)
    same_added =
        let all = begins order host libs in
        sym (ap (take k) all.1 ∙ take-append-le k added all.0 before)

    -- the name is the k-th of all, which later ones follow
    in_queue : slice_get (requested_units order host libs added) k ≡ Some g
    in_queue =
        let rest = all_unit_references (drop k added) in
        let queue = requested_units order host libs (take k added) in
        let more = grown (own_units order host libs) queue rest in
        let all : requested_units order host libs added ≡ queue ++ more.0 =
        ap (requested_units order host libs) (sym (take-append-drop k added))
        ∙ requested_rest order host libs (take k added) (drop k added) ∙ more.1 in
        let name : slice_get queue k ≡ Some g =
        ap (λ (l : List Segment). slice_get (requested_units order host libs l) k) same_added
        ∙ requested.1 in
        rw all (at_left queue more.0 k g name)

    module _ (sound : sources_fault order host libs ≡ None) where
      read_requests_are : read_requests order host libs
          ≡ take MAX_REQUESTED (requested_units order host libs added)
      unfolding read_requests requested_units
      read_requests_are =
          rw (read_are order host libs sound, rounds_are order host libs sound) refl

      -- the slot at k is requested for the k-th name
      pub requested_at : (slot : ℕ) → slice_get (empty_slots order host) k ≡ Some slot
          → slot_request order host libs slot ≡ Some (request_of g slot)
      requested_at slot e = of_empty order host libs slot (empty_slot order host k slot e).2
          ∙ queued
        where
          place : find (λ p. p.1 == slot) (enumerate_from 0 (empty_slots order host))
              ≡ Some (k, slot)
          place = found_first slot (empty_slots order host) 0 k k (omega arith) e
              (first_place k slot e)

          name : slice_get (read_requests order host libs) k ≡ Some g
          name = rw read_requests_are (in_front MAX_REQUESTED _ k g (few k slot e) in_queue)

          queued : queued_request (read_requests order host libs) (empty_slots order host) slot
              ≡ Some (request_of g slot)
          queued = rw (place, name) refl
