-- The segments of a link, put together slot by slot from the host's own and those that were added.
use Rattle.ps_reading.proofs.Vocabulary.{◌≡◌, ◌≢◌, ◌∙◌, ℕ, zero, suc, ◌+◌, ◌<◌, ◌≤◌, List, Bool, true, false, if◌then◌else◌, Option, Some, None, refl, ap, arith, ne_eqb, eq-eqb, eqb-true, range_with_len, filter_map, find, option_or, slots, Order, is_empty, is_role, SLOTS}
use Rattle.ps_reading.specs.Sources.{Segment, own_segment, own_segments}
use Rattle.ps_reading.specs.Added.{added_segments, segments, segment_at}
use Rattle.ps_reading.specs.KnownSegments.{is_in_slot, segment_in_slot, segments_in_slots}
use Rattle.ps_lists.proofs.Items.{find_passes}
use Rattle.ps_reading.proofs.ReadingKnown.{own_parts}

-- each number's segment is in its slot
abbrev pub InPlace : (ℕ → Option Segment) → Type 0
InPlace f = (i : ℕ) (s : Segment) → f i ≡ Some s → s.slot ≡ i

pub other_slot : (j : ℕ) (s : Segment) → s.slot ≢ j → is_in_slot j s ≡ false
other_slot j s differs = ne_eqb s.slot j differs

-- of the segments of the numbers from a on none applies in a slot below a
none_before : (f : ℕ → Option Segment) → InPlace f → (j n a : ℕ) → j < a
    → find (is_in_slot j) (filter_map f (range_with_len a n)) ≡ None
none_before f place j zero a lt = refl
none_before f place j (suc n) a lt = grind (arith, none_before f place j n (a + 1) (omega arith))

-- the segment that is found in a slot is that of the number of the slot
pub found_there : (f : ℕ → Option Segment) → InPlace f → (j n a : ℕ) → a ≤ j
    → j < a + n → find (is_in_slot j) (filter_map f (range_with_len a n)) ≡ f j
found_there f place j zero a le lt = absurd (omega arith)
found_there f place j (suc n) a le lt =
    grind (arith, none_before, eq-eqb, other_slot, found_there f place j n (a + 1))

-- f and g keep the same segments of a range of numbers, where they give the same of each
pub same_kept : (f g : ℕ → Option Segment) (n a : ℕ)
    → ((i : ℕ) → a ≤ i → i < a + n → f i ≡ g i)
    → filter_map f (range_with_len a n) ≡ filter_map g (range_with_len a n)
same_kept f g zero a same = refl
same_kept f g (suc n) a same = grind (arith, same_kept f g n (a + 1))

-- the own segments and the added ones, slot by slot, are those of the link
pub in_slots_are : (order : Order) (host : List ℕ) (libs : List (List ℕ))
    → segments_in_slots order host (own_segments order host libs) (added_segments order host libs)
    ≡ segments order host libs
unfolding segments_in_slots segments own_segments
in_slots_are order host libs =
    same_kept (segment_in_slot order host (own_segments order host libs)
    (added_segments order host libs)) (segment_at order host libs) SLOTS 0
    (λ i low h. ap (λ (o : Option Segment). option_or o
    (if is_role is_empty order host i then find (is_in_slot i) (added_segments order host libs)
    else None))
    (found_there (own_segment order host libs)
    (λ j s e. (own_parts order host libs j s e).0) i SLOTS 0 (omega arith) h))

-- each segment of a link is in its slot
at_place : (order : Order) (host : List ℕ) (libs : List (List ℕ))
    → InPlace (segment_at order host libs)
at_place order host libs i s h = by (own_segment order host libs i) refl
    (is_role is_empty order host i) refl
  where
    by : (o : Option Segment) → own_segment order host libs i ≡ o → (b : Bool)
        → is_role is_empty order host i ≡ b → s.slot ≡ i
    by (Some t) e b f = (own_parts order host libs i s (e ∙ rw e at h)).0
    by None e true f =
        let found : find (is_in_slot i) (added_segments order host libs) ≡ Some s =
        rw (e, f) at h in
        eqb-true s.slot i (find_passes (is_in_slot i) (added_segments order host libs) s found)
    by None e false f = let none : None ≡ Some s = rw (e, f) at h in cc

-- the segments of a link that are found by their slots are all
pub by_slot : (order : Order) (host : List ℕ) (libs : List (List ℕ))
    → filter_map (λ slot. find (is_in_slot slot) (segments order host libs)) slots
    ≡ segments order host libs
unfolding segments
by_slot order host libs =
    let f = segment_at order host libs in
    same_kept (λ (i : ℕ). find (is_in_slot i) (filter_map f slots)) f SLOTS 0
    (λ i low h. found_there f (at_place order host libs) i SLOTS 0 (omega arith) h)
