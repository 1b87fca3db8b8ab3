-- The segments of a link, one slot after another.
use Rattle.ps_laws.proofs.Vocabulary.{SomeBelow, ◌==◌, slice_get, find, Decides-eqb, slots, SomeItem, IsSegment, first_of, Segment, own_segment, Order, Fault, ◌≡◌, ℕ, ◌<◌, List, map, Option, Some, sym, subst, arith, SomeSegment, own_parts, slot_parts, SLOTS}
use Rattle.ps_resolve.specs.Added.{segments, segment_at}
use Rattle.ps_resolve.specs.Linkable.{AscendFrom}
pub use Rattle.ps_resolve.proofs.ReadingKnown.{ascend}
use Rattle.ps_laws.proofs.Least.{Least, least_same, least_then, least_below, first_of_filter_map}
use Rattle.ps_laws.proofs.Looking.{find_some}

module _ (order : Order) (host : List ℕ) (libs : List (List ℕ)) (slot : ℕ) (s : Segment) where
  pub own_in_slot : own_segment order host libs slot ≡ Some s → s.slot ≡ slot
  own_in_slot h = (own_parts order host libs slot s h).0

  pub slot_is : segment_at order host libs slot ≡ Some s → s.slot ≡ slot
  slot_is h = (slot_parts order host libs slot s h).0

-- the segment that is found in a slot
pub found_in_slot : (slot : ℕ) (segs : List Segment) (s : Segment)
    → find (λ (q : Segment). q.slot == slot) segs ≡ Some s
    → SomeItem segs (λ i q. (q ≡ s) × (q.slot ≡ slot) × ((j : ℕ) (e : Segment)
    → j < i → slice_get segs j ≡ Some e → e.slot ≡ slot → ⊥))
found_in_slot slot segs s e = find_some (λ (q : Segment). q.slot == slot)
    (λ (q : Segment). q.slot ≡ slot) (λ q. Decides-eqb q.slot slot) segs s e

-- the first fault of all segments is the smallest that applies, where that of each is, and those of
-- smaller slots come first
pub over_segments : {B : Fault → Fault → Type 0} {S : Segment → Fault → Type 0}
    (order : Order) (host : List ℕ) (libs : List (List ℕ)) (g : Segment → Option Fault)
    → ((s : Segment) → IsSegment order host libs s → Least B (S s) (g s))
    → ((s t : Segment) (x y : Fault) → s.slot < t.slot → S s x → S t y → B x y) → Least
    B (λ f. SomeSegment order host libs (λ s. S s f)) (first_of g (segments order host libs))
unfolding segments
over_segments {B} {S} order host libs g each apart =
    rw (first_of_filter_map g (segment_at order host libs) slots) (least_same to
    (λ f t. (t.0.slot, t.1.0, (t.0, t.1.1, t.2))) (least_below _ SLOTS
    (λ slot lt. least_then g _ (λ s e. each s (here slot s lt e))) (λ i j x y h s t.
    (let a = slot_is order host libs i s.0 s.1 in let b = slot_is order host libs j t.0 t.1 in
    apart s.0 t.0 x y (omega (arith, h, a, b)) s.2 t.2))))
  where
    here : (slot : ℕ) (s : Segment) → slot < SLOTS
        → segment_at order host libs slot ≡ Some s → IsSegment order host libs s
    here slot s lt e = let at = slot_is order host libs slot s e in
        (rw at lt, subst (λ i. segment_at order host libs i ≡ Some s) (sym at) e)

    to : (f : Fault) → SomeBelow SLOTS (λ slot. (s : Segment)
        × (segment_at order host libs slot ≡ Some s) × S s f)
        → SomeSegment order host libs (λ s. S s f)
    to f t = (t.2.0, here t.0 t.2.0 t.1 t.2.1, t.2.2)

-- slots ascend
abbrev pub Ascends : ℕ → List Segment → Type 0
Ascends from ss = AscendFrom from (map (λ (s : Segment). s.slot) ss)
