-- The rounds in which units are added: what holds of all of them, where it goes from each to the
-- one before.
use Rattle.ps_reading.proofs.Vocabulary.{◌≡◌, ℕ, ◌+◌, List, [], ◌∷◌, ◌++◌, length, Option, Some, None, Bool, true, false, refl, sym, ap, subst, ◌∙◌, arith, append_assoc, append-nil, is_none, is_some, take, if◌then◌else◌, enumerate_from, slice_get, find, option_map, option_or, option_and_then, false≢true, same_Some, zero, suc, flat_map-append, slots, Role, entry_fault, code_fault, request_fault, missing_at, Segment, is_named, has_entry, chosen_library, unit_source, segment_from, own_segments, units_of, UnitReference, Request, Order, Fault}
use Rattle.ps_codefile.specs.declared.entry.Role.TheVariants as role
use Rattle.ps_reading.specs.Added.{unit_references, all_unit_references, requested_from, empty_slots, is_missing, unplaced_fault, placed_fault, as_added, added_segment, request_of, RoundsOutcome, after, rounds_from, requested_units, rounds, added_from, added_segments}
use Rattle.ps_reading.proofs.RequestQueue.{name_brings, no_name_brings, no_name_left, none_brought, requested-append, round_adds, round_refused}
use Rattle.ps_reading.proofs.FirstSlots.{any_found, neither_first}
use Rattle.ps_lists.proofs.Items.{find_passes, first_right}
use Rattle.ps_reading.proofs.NextItems.{longer, take_prefix}

-- 1. what is known of a unit's source where there is no fault
pub source_made : (order : Order) (host : List ℕ) (libs : List (List ℕ)) (slot : ℕ)
    (name : List ℕ) (r : Role) (at : ℕ × ℕ) → code_fault order host libs slot r at ≡ None
    → segment_from order host libs slot name r at ≡ None → ⊥
source_made order host libs slot name r at e n = grind arith

-- where a name has no source, no library was chosen for it
pub unit_found : (order : Order) (name : List ℕ) (libs : List (List ℕ))
    → unit_source order name libs ≡ None → is_none (chosen_library order name libs) ≡ true
unit_found order name libs n = go (chosen_library order name libs) refl n
  where
    go : (o : Option (ℕ × List ℕ)) → chosen_library order name libs ≡ o
        → option_and_then {U = ℕ × ℕ}
        (λ (lib : ℕ × List ℕ). option_map {U = ℕ × ℕ} (λ i. (lib.0 + 1, i))
        (find (is_named order name lib.1) slots)) o ≡ None → is_none o ≡ true
    go None is n = refl
    go (Some lib) is n = inner (find (is_named order name lib.1) slots) refl n
      where
        inner : (o : Option ℕ) → find (is_named order name lib.1) slots ≡ o
            → option_map {U = ℕ × ℕ} (λ (i : ℕ). (lib.0 + 1, i)) o ≡ None
            → is_none (Some lib) ≡ true
        inner (Some i) is_it n = absurd (cc)
        inner None is_it n =
            let a : has_entry order name lib.1 ≡ true =
            find_passes (λ (l : ℕ × List ℕ). has_entry order name l.1)
            (enumerate_from 0 libs) lib is in
            let b : has_entry order name lib.1 ≡ false =
            any_found (is_named order name lib.1) slots ∙ ap is_some is_it in
            absurd (false≢true (sym b ∙ a))

-- a request is not missing, and neither the library's entries nor the code of its unit have a fault
abbrev pub IsFine : Order → List ℕ → List (List ℕ) → Request → Type 0
IsFine order host libs q =
    (is_missing order libs q.name ≡ false) × (entry_fault order q.name libs q.slot ≡ None)
    × (option_and_then (code_fault order host libs q.slot role.Wanted)
    (unit_source order q.name libs) ≡ None)

-- a request without a fault is fine
pub request_parts : (order : Order) (host : List ℕ) (libs : List (List ℕ)) (q : Request)
    → request_fault order host libs q ≡ None → IsFine order host libs q
request_parts order host libs q = go (is_missing order libs q.name) refl
  where
    Code : Option Fault
    Code = option_and_then (code_fault order host libs q.slot role.Wanted)
        (unit_source order q.name libs)

    go : (b : Bool) → is_missing order libs q.name ≡ b
        → (if b then Some (missing_at q.slot q.requester)
        else option_or (entry_fault order q.name libs q.slot) Code) ≡ None
        → IsFine order host libs q
    go b h k = grind (arith, neither_first)

-- a request that is fine has a source
pub unit_there : (order : Order) (name : List ℕ) (libs : List (List ℕ))
    → is_missing order libs name ≡ false → unit_source order name libs ≡ None → ⊥
unit_there order name libs is none = grind (arith, is_none, unit_found)

-- a name that has no fault in its slot brings its segment there
brought : (order : Order) (host : List ℕ) (libs : List (List ℕ)) (g : UnitReference)
    (slot : ℕ) → placed_fault order host libs g slot ≡ None
    → added_segment order host libs g slot ≡ None → ⊥
brought order host libs g slot e n = made (unit_source order g.name libs) refl parts.2 n
  where
    parts : IsFine order host libs (request_of g slot)
    parts = request_parts order host libs (request_of g slot) e

    made : (o : Option (ℕ × ℕ)) → unit_source order g.name libs ≡ o
        → option_and_then (code_fault order host libs slot role.Wanted) o ≡ None
        → option_map as_added (option_and_then
        (segment_from order host libs slot g.name role.Wanted) o) ≡ None → ⊥
    made None is e n = unit_there order g.name libs parts.0 is
    made (Some at) is e n = inner (segment_from order host libs slot g.name role.Wanted at) refl n
      where
        inner : (o : Option Segment) → segment_from order host libs slot g.name role.Wanted at
            ≡ o → option_map as_added o ≡ None → ⊥
        inner o h k = grind (arith, source_made)

-- 2. the rounds
abbrev pub own_units : Order → List ℕ → List (List ℕ) → List (List ℕ × ℕ)
own_units order host libs = units_of (own_segments order host libs)

abbrev pub references_of : Segment → List UnitReference
references_of s = unit_references s.file s.slot 0 s.records

-- the names that further segments request come after those that are requested by the ones before
pub requested_rest : (order : Order) (host : List ℕ) (libs : List (List ℕ))
    (prefix rest : List Segment) → requested_units order host libs (prefix ++ rest)
    ≡ requested_from (own_units order host libs) (requested_units order host libs prefix)
    (all_unit_references rest)
unfolding requested_units
requested_rest order host libs prefix rest = grind (arith, flat_map-append, requested-append)

abbrev pub rest_of : Order → List ℕ → List (List ℕ) → List ℕ → ℕ
    → List UnitReference → RoundsOutcome
rest_of order host libs left k queue = rounds_from order host libs
    (own_units order host libs) left k queue

abbrev pub added_rest : Order → List ℕ → List (List ℕ) → List ℕ → ℕ
    → List UnitReference → List Segment
added_rest order host libs left k queue = added_from order host libs
    (own_units order host libs) left k queue

-- the first fault of a name, where this slot, or none, is left for it
abbrev pub round_fault : Order → List ℕ → List (List ℕ) → UnitReference → Option ℕ
    → Option Fault
round_fault order host libs g None = Some (unplaced_fault order libs g)
round_fault order host libs g (Some slot) = placed_fault order host libs g slot

-- the rounds begin with the names that the host's own segments request
first_round : (order : Order) (host : List ℕ) (libs : List (List ℕ))
    → rounds order host libs ≡ rest_of order host libs (empty_slots order host) 0
    (requested_units order host libs [])
unfolding rounds requested_units
first_round order host libs = grind (arith, append-nil)

first_added : (order : Order) (host : List ℕ) (libs : List (List ℕ))
    → added_segments order host libs ≡ added_rest order host libs (empty_slots order host) 0
    (requested_units order host libs [])
unfolding added_segments requested_units
first_added order host libs = grind (arith, append-nil)

-- the rounds before round k added these segments, in these slots, and left these
record SoFar (order : Order) (host : List ℕ) (libs : List (List ℕ)) (left : List ℕ)
    (prefix : List Segment) (used : List ℕ) (k : ℕ) (queue : List UnitReference) : Type 0 where
  many : k ≡ length prefix
  slots_are : empty_slots order host ≡ used ++ left
  used_at : k ≡ length used
  queue_is : requested_units order host libs prefix ≡ queue

-- round k is for this name, with this slot or none; these segments are added before it, and these
-- from it on
pub record IsTurn (order : Order) (host : List ℕ) (libs : List (List ℕ))
    (prefix rest : List Segment) (k : ℕ) (g : UnitReference) (slot : Option ℕ) : Type 0 where
  pub all : added_segments order host libs ≡ prefix ++ rest
  pub many : k ≡ length prefix
  pub name : slice_get (requested_units order host libs prefix) k ≡ Some g
  pub slot_is : slice_get (empty_slots order host) k ≡ slot

module _ (order : Order) (host : List ℕ) (libs : List (List ℕ)) where
  -- the segments that are added before round k are the first k
  pub segments_before : (prefix rest : List Segment) (k : ℕ)
      → added_segments order host libs ≡ prefix ++ rest → k ≡ length prefix
      → take k (added_segments order host libs) ≡ prefix
  segments_before prefix rest k all many = grind (arith, take_prefix)

  one_more : (slot : ℕ) (left : List ℕ) (prefix : List Segment) (used : List ℕ) (k : ℕ)
      (queue : List UnitReference) (s : Segment)
      → SoFar order host libs (slot ∷ left) prefix used k queue
      → SoFar order host libs left (prefix ++ s ∷ []) (used ++ slot ∷ []) (k + 1)
      (requested_from (own_units order host libs) queue (references_of s))
  one_more slot left prefix used k queue s h =
      grind (arith, longer, append_assoc, requested_rest, append-nil)

  turn_of : (slot : ℕ) (left : List ℕ) (prefix : List Segment) (used : List ℕ) (k : ℕ)
      (queue : List UnitReference) → SoFar order host libs (slot ∷ left) prefix used k queue
      → (g : UnitReference) → slice_get queue k ≡ Some g → (rest : List Segment)
      → added_segments order host libs ≡ prefix ++ rest
      → IsTurn order host libs prefix rest k g (Some slot)
  turn_of slot left prefix used k queue h g e rest all = record {
    all = all;
    many = h.many;
    name = rw h.queue_is e;
    slot_is = ap (λ (l : List ℕ). slice_get l k) h.slots_are
        ∙ first_right used (slot ∷ left) k h.used_at;
  }

  -- P holds of the rounds from each on, where it holds of the last, which has no name or a fault,
  -- and of each that adds a segment if of those after it
  module _ (P : ℕ → RoundsOutcome → Type 0)
      (none : (prefix : List Segment) (k : ℕ) → added_segments order host libs ≡ prefix
      → k ≡ length prefix → slice_get (requested_units order host libs prefix) k ≡ None
      → P k (record { added = []; fault = None }))
      (stops : (prefix others : List Segment) (k : ℕ) (g : UnitReference) (slot : Option ℕ)
      (f : Fault) → IsTurn order host libs prefix others k g slot
      → round_fault order host libs g slot ≡ Some f
      → P k (record { added = []; fault = Some f }))
      (goes : (prefix others : List Segment) (k : ℕ) (g : UnitReference) (slot : ℕ)
      (s : Segment) (rest : RoundsOutcome)
      → IsTurn order host libs prefix (s ∷ others) k g (Some slot)
      → placed_fault order host libs g slot ≡ None
      → added_segment order host libs g slot ≡ Some s → P (k + 1) rest → P k (after s rest))
    where
      from_round : (left : List ℕ) (prefix : List Segment) (used : List ℕ) (k : ℕ)
          (queue : List UnitReference)
          → SoFar order host libs left prefix used k queue → added_segments order host libs
          ≡ prefix ++ added_rest order host libs left k queue
          → P k (rest_of order host libs left k queue)
      from_round [] prefix used k queue h is = by (slice_get queue k) refl
        where
          slot_is : slice_get (empty_slots order host) k ≡ None
          slot_is = grind (arith, first_right)

          by : (o : Option UnitReference) → slice_get queue k ≡ o
              → P k (record { added = []; fault = option_map (unplaced_fault order libs) o })
          by None e = none prefix k (is ∙ append-nil prefix) h.many (rw h.queue_is e)
          by (Some g) e =
              stops prefix [] k g None (unplaced_fault order libs g)
              (record { all = is; many = h.many; name = rw h.queue_is e; slot_is = slot_is }) refl
      from_round (slot ∷ left) prefix used k queue h is =
          at_name (λ s next more all. from_round left (prefix ++ s ∷ []) (used ++ slot ∷ [])
          (k + 1) next more all) (slice_get queue k) refl
        where
          Later : Type 0
          Later = (s : Segment) (next : List UnitReference)
              → SoFar order host libs left (prefix ++ s ∷ []) (used ++ slot ∷ []) (k + 1) next
              → added_segments order host libs
              ≡ (prefix ++ s ∷ []) ++ added_rest order host libs left (k + 1) next
              → P (k + 1) (rest_of order host libs left (k + 1) next)

          turn : (g : UnitReference) → slice_get queue k ≡ Some g → (rest : List Segment)
              → added_segments order host libs ≡ prefix ++ rest
              → IsTurn order host libs prefix rest k g (Some slot)
          turn = turn_of slot left prefix used k queue h

          at_segment : Later → (g : UnitReference) → slice_get queue k ≡ Some g
              → placed_fault order host libs g slot ≡ None
              → (o : Option Segment) → added_segment order host libs g slot ≡ o
              → P k (rest_of order host libs (slot ∷ left) k queue)
          at_segment later g e p None a = absurd (brought order host libs g slot p a)
          at_segment later g e p (Some s) a =
              let next = requested_from (own_units order host libs) queue (references_of s) in
              let rest = rest_of order host libs left (k + 1) next in
              let others = added_rest order host libs left (k + 1) next in
              let goes_on : rest_of order host libs (slot ∷ left) k queue ≡ after s rest =
              grind (arith, round_adds)
              in
              let all : added_segments order host libs ≡ prefix ++ s ∷ others =
              is ∙ ap (λ (l : List Segment). prefix ++ l)
              (name_brings order host libs (own_units order host libs) k queue slot left g s e a) in
              subst (P k) (sym goes_on)
              (goes prefix others k g slot s rest (turn g e (s ∷ others) all) p a
              (later s next (one_more slot left prefix used k queue s h)
              (all ∙ sym (append_assoc prefix (s ∷ []) others))))

          at_fault : Later → (g : UnitReference) → slice_get queue k ≡ Some g
              → (o : Option Fault) → placed_fault order host libs g slot ≡ o
              → P k (rest_of order host libs (slot ∷ left) k queue)
          at_fault later g e (Some f) p =
              let ends : rest_of order host libs (slot ∷ left) k queue
              ≡ record { added = []; fault = Some f } = grind (arith, round_refused)
              in
              let others = added_rest order host libs (slot ∷ left) k queue in
              subst (P k) (sym ends) (stops prefix others k g (Some slot) f
              (turn g e others is) p)
          at_fault later g e None p = at_segment later g e p
              (added_segment order host libs g slot) refl

          at_name : Later → (o : Option UnitReference) → slice_get queue k ≡ o
              → P k (rest_of order host libs (slot ∷ left) k queue)
          at_name later None e =
              let ends : rest_of order host libs (slot ∷ left) k queue
              ≡ record { added = []; fault = None } = grind (arith, no_name_left)
              in
              subst (P k) (sym ends) (none prefix k
              (is ∙ ap (λ (l : List Segment). prefix ++ l)
              (no_name_brings order host libs (own_units order host libs) k queue (slot ∷ left) e)
              ∙ append-nil prefix) h.many (rw h.queue_is e))
          at_name later (Some g) e = at_fault later g e (placed_fault order host libs g slot) refl

      -- what holds from each round on holds of all rounds
      pub all_rounds : P 0 (rounds order host libs)
      all_rounds =
          let same = first_round order host libs in
          subst (P 0) (sym same)
          (from_round (empty_slots order host) [] [] 0 (requested_units order host libs [])
          (record { many = refl; slots_are = refl; used_at = refl; queue_is = refl })
          (first_added order host libs))

  -- 3. the segments that are added, whatever the faults
  -- a segment was brought in a turn
  abbrev pub IsBrought : ℕ → Segment → Type 0
  IsBrought j s =
      (g : UnitReference) × (slot : ℕ) × (prefix : List Segment) × (others : List Segment)
      × IsTurn order host libs prefix (s ∷ others) j g (Some slot)
      × (added_segment order host libs g slot ≡ Some s)

  -- the name of round k brings a segment into this slot, where some are added from it on
  name_brought : (slot : ℕ) (left : List ℕ) (k : ℕ) (queue : List UnitReference) (j : ℕ)
      (s : Segment) → slice_get (added_rest order host libs (slot ∷ left) k queue) j ≡ Some s
      → (g : UnitReference) × (t : Segment) × (slice_get queue k ≡ Some g)
      × (added_segment order host libs g slot ≡ Some t)
  name_brought slot left k queue j s at = at_name (slice_get queue k) refl
    where
      units : List (List ℕ × ℕ)
      units = own_units order host libs

      Brought : Type 0
      Brought = (g : UnitReference) × (t : Segment) × (slice_get queue k ≡ Some g)
          × (added_segment order host libs g slot ≡ Some t)

      none : added_rest order host libs (slot ∷ left) k queue ≡ [] → ⊥
      none empty = let e = sym at ∙ ap (λ (l : List Segment). slice_get l j) empty in cc

      at_segment : (g : UnitReference) → slice_get queue k ≡ Some g → (o : Option Segment)
          → added_segment order host libs g slot ≡ o → Brought
      at_segment g e None a =
          absurd (none (none_brought order host libs units k queue slot left g e a))
      at_segment g e (Some t) a = (g, t, e, a)

      at_name : (o : Option UnitReference) → slice_get queue k ≡ o → Brought
      at_name None e =
          absurd (none (no_name_brings order host libs units k queue (slot ∷ left) e))
      at_name (Some g) e = at_segment g e (added_segment order host libs g slot) refl

  turns_from : (left : List ℕ) (prefix : List Segment) (used : List ℕ) (k : ℕ)
      (queue : List UnitReference) → SoFar order host libs left prefix used k queue
      → added_segments order host libs ≡ prefix ++ added_rest order host libs left k queue
      → (j n : ℕ) → n ≡ k + j → (s : Segment)
      → slice_get (added_rest order host libs left k queue) j ≡ Some s → IsBrought n s
  turns_from [] prefix used k queue h is j n at s there = absurd (cc)
  turns_from (slot ∷ left) prefix used k queue h is j n at s there =
      by j at (sym (ap (λ (l : List Segment). slice_get l j) goes_on) ∙ there)
      (turns_from left (prefix ++ t ∷ []) (used ++ slot ∷ []) (k + 1) next
      (one_more slot left prefix used k queue t h)
      (all ∙ sym (append_assoc prefix (t ∷ []) others)))
    where
      brings : (g : UnitReference) × (t : Segment) × (slice_get queue k ≡ Some g)
          × (added_segment order host libs g slot ≡ Some t)
      brings = name_brought slot left k queue j s there

      t : Segment
      t = brings.1

      next : List UnitReference
      next = requested_from (own_units order host libs) queue (references_of t)

      others : List Segment
      others = added_rest order host libs left (k + 1) next

      goes_on : added_rest order host libs (slot ∷ left) k queue ≡ t ∷ others
      goes_on = name_brings order host libs (own_units order host libs) k queue slot left
          brings.0 t brings.2 brings.3

      all : added_segments order host libs ≡ prefix ++ t ∷ others
      all = is ∙ ap (λ (l : List Segment). prefix ++ l) goes_on

      turn : IsTurn order host libs prefix (t ∷ others) k brings.0 (Some slot)
      turn = turn_of slot left prefix used k queue h brings.0 brings.2 (t ∷ others) all

      by : (i : ℕ) → n ≡ k + i → slice_get (t ∷ others) i ≡ Some s
          → ((i m : ℕ) → m ≡ k + 1 + i → (q : Segment) → slice_get others i ≡ Some q
          → IsBrought m q) → IsBrought n s
      by zero at e later =
          let same : t ≡ s = same_Some t s e in
          let here : k ≡ n = omega (arith, at) in
          subst (λ (m : ℕ). IsBrought m s) here (subst (IsBrought k) same
          (brings.0, slot, prefix, others, turn, brings.3))
      by (suc i) at e later = later i n (omega (arith, at)) s e

  -- each segment that is added was brought in its turn
  pub is_brought : (j : ℕ) (s : Segment) → slice_get (added_segments order host libs) j ≡ Some s
      → IsBrought j s
  is_brought j s at =
      let first = first_added order host libs in
      turns_from (empty_slots order host) [] [] 0 (requested_units order host libs [])
      (record { many = refl; slots_are = refl; used_at = refl; queue_is = refl }) first
      j j (omega arith) s (sym (ap (λ (l : List Segment). slice_get l j) first) ∙ at)

  -- 4. the segments that are added begin with those of the rounds, and are these where no fault
  -- ends the rounds
  abbrev pub Begins : RoundsOutcome → List Segment → Type 0
  Begins r all = (others : List Segment) × (all ≡ r.added ++ others) × (r.fault ≡ None → others ≡ [])

  begins_from : (left : List ℕ) (k : ℕ) (queue : List UnitReference)
      → Begins (rest_of order host libs left k queue) (added_rest order host libs left k queue)
  begins_from [] k queue = ([], refl, λ e. refl)
  begins_from (slot ∷ left) k queue =
      at_name (slice_get queue k) refl (λ next. begins_from left (k + 1) next)
    where
      units : List (List ℕ × ℕ)
      units = own_units order host libs

      Later : Type 0
      Later = (next : List UnitReference) → Begins (rest_of order host libs left (k + 1) next)
          (added_rest order host libs left (k + 1) next)

      Begin : Type 0
      Begin = Begins (rest_of order host libs (slot ∷ left) k queue)
          (added_rest order host libs (slot ∷ left) k queue)

      at_segment : Later → (g : UnitReference) → slice_get queue k ≡ Some g
          → placed_fault order host libs g slot ≡ None
          → (o : Option Segment) → added_segment order host libs g slot ≡ o → Begin
      at_segment later g e p None a = absurd (brought order host libs g slot p a)
      at_segment later g e p (Some s) a =
          let rest = later (requested_from units queue (references_of s)) in
          rw (
            round_adds order host libs units k queue slot left g s e p a,
            name_brings order host libs units k queue slot left g s e a,
          ) (rest.0, ap (λ (l : List Segment). s ∷ l) rest.1, rest.2)

      at_fault : Later → (g : UnitReference) → slice_get queue k ≡ Some g
          → (o : Option Fault) → placed_fault order host libs g slot ≡ o → Begin
      at_fault later g e (Some f) p =
          rw (round_refused order host libs units k queue slot left g f e p)
          (added_rest order host libs (slot ∷ left) k queue, refl, λ h. absurd (cc))
      at_fault later g e None p = at_segment later g e p (added_segment order host libs g slot) refl

      at_name : (o : Option UnitReference) → slice_get queue k ≡ o → Later → Begin
      at_name None e later =
          rw (
            no_name_left order host libs units k queue (slot ∷ left) e,
            no_name_brings order host libs units k queue (slot ∷ left) e,
          ) ([], refl, λ h. refl)
      at_name (Some g) e later = at_fault later g e (placed_fault order host libs g slot) refl

  pub begins : Begins (rounds order host libs) (added_segments order host libs)
  begins = rw (first_round order host libs, first_added order host libs)
      (begins_from (empty_slots order host) 0 (requested_units order host libs []))

  -- where the rounds end without a fault, they add what is added
  pub rounds_added : (rounds order host libs).fault ≡ None
      → (rounds order host libs).added ≡ added_segments order host libs
  rounds_added fine = let b = begins in
      sym (b.1 ∙ ap (λ (l : List Segment). (rounds order host libs).added ++ l) (b.2 fine)
      ∙ append-nil (rounds order host libs).added)
