-- The rounds in which units are added, from one of them on: which name takes which slot, and how
-- its round ends.
use Rattle.std.proofs.Common.{◌≡◌, ◌∙◌, ◌+◌, ◌==◌, ◌≤◌, ◌∷◌, [], ℕ, zero, suc, List, length, true, false, refl, sym, ap, subst, inl, inr, arith}
use Rattle.std.specs.Prelude.{◌⊎◌, Option, Some, None, slice_get}
use Rattle.std.specs.List.{enumerate_from, find}
use Rattle.std.specs.Option.{option_map}
use Rattle.std.proofs.lemmas.Bool.Decides.{nat_tests}
use Rattle.std.proofs.lemmas.Option.{same_Some}
use Rattle.ps_words.specs.declared.fault.Fault.{Fault}
use Rattle.ps_words.specs.declared.order.Order.{Order}
use Rattle.ps_codefile.specs.declared.entry.Role.TheVariants as role
use Rattle.ps_reading.specs.Added.{RoundsOutcome, added_segment, after, all_unit_references, as_added, placed_fault, request_of, requested_from, rounds_from, unit_references, unplaced_fault}
use Rattle.ps_reading.specs.KnownSegments.{AscendFrom, is_in_slot}
use Rattle.ps_reading.specs.Sources.{Segment, segment_with}
use Rattle.ps_reading.specs.declared.reading.added.UnitReference.{UnitReference}
use Rattle.ps_reading.proofs.EachRound.{request_parts, source_made, unit_there}
use Rattle.ps_reading.proofs.EachSegment.{added_made}
use Rattle.ps_lists.proofs.Items.{at_left}
use Rattle.ps_reading.proofs.KnownNames.{grown}
use Rattle.ps_reading.proofs.RequestQueue.{no_name_left, requested-append, round_adds, round_refused}

-- numbers that ascend
pub ascend_from : (from : ℕ) (xs : List ℕ) → AscendFrom from xs → (i x : ℕ) → slice_get xs i ≡ Some x
    → from ≤ x
ascend_from from [] a i x e = absurd (cc)
ascend_from from (y ∷ ys) a zero x e = let is = same_Some y x e in omega (arith, a.0, is)
ascend_from from (y ∷ ys) a (suc i) x e =
    omega (arith, a.0, ascend_from (y + 1) ys a.1 i x e)

pub one_place : (from : ℕ) (xs : List ℕ) (i j x : ℕ) → AscendFrom from xs → slice_get xs i ≡ Some x
    → slice_get xs j ≡ Some x → i ≡ j
one_place from [] i j x a e d = absurd (cc)
one_place from (y ∷ ys) zero zero x a e d = refl
one_place from (y ∷ ys) zero (suc j) x a e d = let is = same_Some y x e in
    absurd (omega (arith, is, ascend_from (y + 1) ys a.1 j x d))
one_place from (y ∷ ys) (suc i) zero x a e d = let is = same_Some y x d in
    absurd (omega (arith, is, ascend_from (y + 1) ys a.1 i x e))
one_place from (y ∷ ys) (suc i) (suc j) x a e d = ap suc (one_place (y + 1) ys i j x a.1 e d)

-- one of them is found at its place
pub found_at : (from n k m x : ℕ) (xs : List ℕ) → AscendFrom from xs → m ≡ n + k
    → slice_get xs k ≡ Some x → find (λ p. p.1 == x) (enumerate_from n xs) ≡ Some (m, x)
found_at from n k m x [] a at e = absurd (cc)
found_at from n zero m x (y ∷ ys) a at e = grind arith
found_at from n (suc k) m x (y ∷ ys) a at e =
    let low = ascend_from (y + 1) ys a.1 k x e in
    grind (arith, nat_tests, found_at (y + 1) (n + 1) k m x ys a.1 (omega (arith, at)) e)

-- of segments in slots that ascend, each is found by its slot
pub found_by_slot : (from : ℕ) (xs : List Segment) (ys : List ℕ) (j slot : ℕ) → AscendFrom from ys
    → ((i : ℕ) (s : Segment) → slice_get xs i ≡ Some s → slice_get ys i ≡ Some s.slot)
    → slice_get ys j ≡ Some slot → find (is_in_slot slot) xs ≡ slice_get xs j
found_by_slot from [] ys j slot a h e = refl
found_by_slot from (x ∷ xs) [] j slot a h e = absurd (cc)
found_by_slot from (x ∷ xs) (y ∷ ys) zero slot a h e = grind (arith, h zero x refl)
found_by_slot from (x ∷ xs) (y ∷ ys) (suc j) slot a h e =
    let low = ascend_from (y + 1) ys a.1 j slot e in
    let here = same_Some y x.slot (h zero x refl) in
    let other : (x.slot == slot) ≡ false = grind (arith, nat_tests) in
    rw other (found_by_slot (y + 1) xs ys j slot a.1 (λ i s at. h (suc i) s at) e)

module _ (order : Order) (host : List ℕ) (libs : List (List ℕ)) where
  -- what a round adds
  pub record IsBrought (g : UnitReference) (slot : ℕ) (s : Segment) : Type 0 where
    pub slot_is : s.slot ≡ slot
    pub name_is : s.name ≡ g.name
    pub role_is : s.role ≡ role.Wanted
    pub is_added : s.added ≡ true

  pub is_brought : (g : UnitReference) (slot : ℕ) (s : Segment)
      → added_segment order host libs g slot ≡ Some s → IsBrought g slot s
  is_brought g slot s e =
      let t = added_made order host libs g slot s e in
      let is : s ≡ as_added (segment_with order host libs slot g.name role.Wanted t.0 t.3.code) =
      t.2 ∙ ap as_added t.3.is in
      record {
        slot_is = ap (λ (q : Segment). q.slot) is;
        name_is = ap (λ (q : Segment). q.name) is;
        role_is = ap (λ (q : Segment). q.role) is;
        is_added = ap (λ (q : Segment). q.added) is;
      }

  -- a name that has no fault in its slot brings its segment there
  brought : (g : UnitReference) (slot : ℕ) → placed_fault order host libs g slot ≡ None
      → added_segment order host libs g slot ≡ None → ⊥
  brought g slot e n =
      let fine = request_parts order host libs (request_of g slot) e in
      grind (arith, unit_there order g.name libs fine.0, source_made, fine.2)

  -- the rounds, from one of them on
  module _ (units : List (List ℕ × ℕ)) where
    abbrev from : List ℕ → ℕ → List UnitReference → RoundsOutcome
    from left k queue = rounds_from order host libs units left k queue

    -- the names that were requested before and those that the rounds request
    abbrev pub names : List UnitReference → RoundsOutcome → List UnitReference
    names queue r = requested_from units queue (all_unit_references r.added)

    abbrev next : List UnitReference → Segment → List UnitReference
    next queue s = requested_from units queue (unit_references s.file s.slot 0 s.records)

    -- what holds of rounds that end, and of one more if of those after it, holds of all
    module _ (P : List ℕ → ℕ → List UnitReference → RoundsOutcome → Type 0)
        (none : (left : List ℕ) (k : ℕ) (queue : List UnitReference) → slice_get queue k ≡ None
        → P left k queue (record { added = []; fault = None }))
        (full : (k : ℕ) (queue : List UnitReference) (g : UnitReference)
        → P [] k queue (record { added = []; fault = Some (unplaced_fault order libs g) }))
        (stops : (slot : ℕ) (left : List ℕ) (k : ℕ) (queue : List UnitReference)
        (g : UnitReference) (f : Fault) → slice_get queue k ≡ Some g
        → placed_fault order host libs g slot ≡ Some f
        → P (slot ∷ left) k queue (record { added = []; fault = Some f }))
        (goes : (slot : ℕ) (left : List ℕ) (k : ℕ) (queue : List UnitReference)
        (g : UnitReference) (s : Segment) (rest : RoundsOutcome) → slice_get queue k ≡ Some g
        → added_segment order host libs g slot ≡ Some s → P left (k + 1) (next queue s) rest
        → P (slot ∷ left) k queue (after s rest)) where
      all_rounds : (left : List ℕ) (k : ℕ) (queue : List UnitReference)
          → P left k queue (from left k queue)
      all_rounds [] k queue = by (slice_get queue k) refl
        where
          by : (o : Option UnitReference) → slice_get queue k ≡ o
              → P [] k queue (record { added = []; fault = option_map (unplaced_fault order libs) o })
          by None e = none [] k queue e
          by (Some g) e = full k queue g
      all_rounds (slot ∷ left) k queue = by (slice_get queue k) refl
          (λ s. all_rounds left (k + 1) (next queue s))
        where
          Later : Type 0
          Later = (s : Segment) → P left (k + 1) (next queue s) (from left (k + 1) (next queue s))

          adds : (g : UnitReference) → slice_get queue k ≡ Some g
              → placed_fault order host libs g slot ≡ None → Later → (o : Option Segment)
              → added_segment order host libs g slot ≡ o
              → P (slot ∷ left) k queue (from (slot ∷ left) k queue)
          adds g is fits later None e = absurd (brought g slot fits e)
          adds g is fits later (Some s) e =
              rw (round_adds order host libs units k queue slot left g s is fits e)
              (goes slot left k queue g s (from left (k + 1) (next queue s)) is e (later s))

          looks : (g : UnitReference) → slice_get queue k ≡ Some g → Later → (o : Option Fault)
              → placed_fault order host libs g slot ≡ o
              → P (slot ∷ left) k queue (from (slot ∷ left) k queue)
          looks g is later None e =
              adds g is e later (added_segment order host libs g slot) refl
          looks g is later (Some f) e =
              rw (round_refused order host libs units k queue slot left g f is e)
              (stops slot left k queue g f is e)

          by : (o : Option UnitReference) → slice_get queue k ≡ o → Later
              → P (slot ∷ left) k queue (from (slot ∷ left) k queue)
          by None e later = rw (no_name_left order host libs units k queue (slot ∷ left) e)
              (none (slot ∷ left) k queue e)
          by (Some g) e later = looks g e later (placed_fault order host libs g slot) refl

    -- the n-th name takes the slot at j: its round adds its segment, or ends the rounds with a
    -- fault, or they ended before
    pub record Adds (r : RoundsOutcome) (all : List UnitReference) (n j slot : ℕ) : Type 0 where
      pub g : UnitReference
      pub s : Segment
      pub name : slice_get all n ≡ Some g
      pub there : slice_get r.added j ≡ Some s
      pub brings : added_segment order host libs g slot ≡ Some s

    pub record Refuses (r : RoundsOutcome) (all : List UnitReference) (n j slot : ℕ) : Type 0 where
      pub g : UnitReference
      pub f : Fault
      pub name : slice_get all n ≡ Some g
      pub last : length r.added ≡ j
      pub fault : r.fault ≡ Some f
      pub refused : placed_fault order host libs g slot ≡ Some f

    pub record Rests (r : RoundsOutcome) (all : List UnitReference) (n j : ℕ) : Type 0 where
      pub past : length r.added ≤ j
      pub fine : length r.added ≡ j → r.fault ≡ None
      pub ended : (g : UnitReference) → slice_get all n ≡ Some g → (f : Fault) × (r.fault ≡ Some f)

    abbrev pub Turn : RoundsOutcome → List UnitReference → ℕ → ℕ → ℕ → Type 0
    Turn r all n j slot = Adds r all n j slot ⊎ (Refuses r all n j slot ⊎ Rests r all n j)

    abbrev HaveTurns : List ℕ → ℕ → List UnitReference → RoundsOutcome → Type 0
    HaveTurns left k queue r = (n j slot : ℕ) → n ≡ k + j → slice_get left j ≡ Some slot
        → Turn r (names queue r) n j slot

    no_name : (queue : List UnitReference) (k n : ℕ) (g : UnitReference) → slice_get queue k ≡ None
        → k ≤ n → slice_get queue n ≡ Some g → ⊥
    no_name [] k n g none le e = absurd (cc)
    no_name (q ∷ queue) zero n g none le e = absurd (cc)
    no_name (q ∷ queue) (suc k) zero g none le e = absurd (omega arith)
    no_name (q ∷ queue) (suc k) (suc n) g none le e = no_name queue k n g none (omega arith) e

    turns_end : (left : List ℕ) (k : ℕ) (queue : List UnitReference) → slice_get queue k ≡ None
        → HaveTurns left k queue (record { added = []; fault = None })
    turns_end left k queue none n j slot at e = inr (inr (record {
      past = omega arith;
      fine = λ last. refl;
      ended = λ g is. absurd (no_name queue k n g none (omega (arith, at)) is);
    }))

    turns_stop : (slot : ℕ) (left : List ℕ) (k : ℕ) (queue : List UnitReference)
        (g : UnitReference) (f : Fault) → slice_get queue k ≡ Some g
        → placed_fault order host libs g slot ≡ Some f
        → HaveTurns (slot ∷ left) k queue (record { added = []; fault = Some f })
    turns_stop slot left k queue g f is refused n zero x at e =
        let same : k ≡ n = omega (arith, at) in
        let here : slot ≡ x = same_Some slot x e in
        inr (inl (record {
          g = g;
          f = f;
          name = rw (← same) is;
          last = refl;
          fault = refl;
          refused = rw (← here) refused;
        }))
    turns_stop slot left k queue g f is refused n (suc j) x at e = inr (inr (record {
      past = omega arith;
      fine = λ last. absurd (omega (arith, last));
      ended = λ g is. (f, refl);
    }))

    turns_go : (slot : ℕ) (left : List ℕ) (k : ℕ) (queue : List UnitReference)
        (g : UnitReference) (s : Segment) (rest : RoundsOutcome) → slice_get queue k ≡ Some g
        → added_segment order host libs g slot ≡ Some s
        → HaveTurns left (k + 1) (next queue s) rest
        → HaveTurns (slot ∷ left) k queue (after s rest)
    turns_go slot left k queue g s rest is brings later n zero x at e =
        let same : k ≡ n = omega (arith, at) in
        let here : slot ≡ x = same_Some slot x e in
        let more = grown units queue (all_unit_references (s ∷ rest.added)) in
        inl (record {
          g = g;
          s = s;
          name = rw (more.1, ← same) (at_left queue more.0 k g is);
          there = refl;
          brings = rw (← here) brings;
        })
    turns_go slot left k queue g s rest is brings later n (suc j) x at e =
        let same : names queue (after s rest) ≡ names (next queue s) rest =
        requested-append units queue (unit_references s.file s.slot 0 s.records)
        (all_unit_references rest.added) in
        by (subst (λ (all : List UnitReference). Turn rest all n j x) (sym same)
        (later n j x (omega (arith, at)) e))
      where
        by : Turn rest (names queue (after s rest)) n j x
            → Turn (after s rest) (names queue (after s rest)) n (suc j) x
        by (inl t) = inl (record {
          g = t.g;
          s = t.s;
          name = t.name;
          there = t.there;
          brings = t.brings;
        })
        by (inr (inl t)) = inr (inl (record {
          g = t.g;
          f = t.f;
          name = t.name;
          last = omega (arith, t.last);
          fault = t.fault;
          refused = t.refused;
        }))
        by (inr (inr t)) = inr (inr (record {
          past = omega (arith, t.past);
          fine = λ last. t.fine (omega (arith, last));
          ended = t.ended;
        }))

    pub turns : (left : List ℕ) (k : ℕ) (queue : List UnitReference)
        → HaveTurns left k queue (from left k queue)
    turns = all_rounds HaveTurns turns_end (λ k queue g n j slot at e. absurd (cc)) turns_stop
        turns_go

    -- what is added is in the slots
    abbrev AreInSlots : List ℕ → ℕ → List UnitReference → RoundsOutcome → Type 0
    AreInSlots left k queue r = (i : ℕ) (s : Segment) → slice_get r.added i ≡ Some s
        → slice_get left i ≡ Some s.slot

    slots_go : (slot : ℕ) (left : List ℕ) (k : ℕ) (queue : List UnitReference)
        (g : UnitReference) (s : Segment) (rest : RoundsOutcome) → slice_get queue k ≡ Some g
        → added_segment order host libs g slot ≡ Some s
        → AreInSlots left (k + 1) (next queue s) rest
        → AreInSlots (slot ∷ left) k queue (after s rest)
    slots_go slot left k queue g s rest is brings later zero q e =
        grind (arith, is_brought g slot s brings)
    slots_go slot left k queue g s rest is brings later (suc i) q e = later i q e

    pub in_slots : (left : List ℕ) (k : ℕ) (queue : List UnitReference)
        → AreInSlots left k queue (from left k queue)
    in_slots = all_rounds AreInSlots (λ left k queue none i s e. absurd (cc))
        (λ k queue g i s e. absurd (cc)) (λ slot left k queue g f is no i s e. absurd (cc)) slots_go
