-- The first fault of the units that are added is the smallest that is.
use Rattle.ps_laws.proofs.Vocabulary.{◌⊎◌, if◌then◌else◌, Decides, slice_get, option_or, option_map, option_and_then, cases_lt, Decides-or, RoundsOutcome, after, added_segments, added_fault, Step, OfSources, OfAdded, rank, part, key, InRound, entry_fault, code_fault, Before, Segment, unit_source, UnitReference, in_record, Order, Fault, ◌≡◌, ◌≤◌, ◌∷◌, ◌∙◌, append-nil, length-append, ℕ, ◌+◌, length, Option, subst, arith, unwrap_or, List, [], take, Some, None, Bool, refl, inl, inr, record_read, IsMissing, PlacedFault, IsTurn, all_rounds, round_fault, segments_before}
use Rattle.ps_resolve.specs.Added.{is_missing, requested_units, rounds}
use Rattle.ps_codefile.specs.declared.entry.Role.TheVariants as role
use Rattle.ps_laws.proofs.Least.{quiet, least_else, Least, nothing, this, Precedes, least_or_then, least_same, least_order, least_map}
use Rattle.ps_laws.proofs.Looking.{of_test}
use Rattle.ps_laws.proofs.Sources.{OneStop, none_has, unit_least, placed_late}
use Rattle.ps_words.specs.declared.fault.Reason.TheVariants as reason

-- 1. one round
-- what is wrong with the unit of a reference, where this slot, or none, is left for it
abbrev RoundHas : Order → List ℕ → List (List ℕ) → UnitReference → Option ℕ → Fault
    → Type 0
RoundHas order host libs g left f =
    ((f ≡ in_record g.at.segment.file g.at.segment.slot g.at.rec reason.MissingUnit)
    × IsMissing order libs g.name)
    ⊎ (((f ≡ in_record g.at.segment.file g.at.segment.slot g.at.rec reason.NoSlot)
    × (left ≡ None))
    ⊎ ((slot : ℕ) × (left ≡ Some slot) × PlacedFault order host libs g.name slot f))

-- a fault of rank 12 or above that has a record has one that was read
reads : (f : Fault) → 12 ≤ rank f.reason → record_read f.reason f.rec ≡ part f.rec
reads f h = grind arith

-- the fault that a unit is missing comes before the round's others
missing_first : (k : ℕ) (g : UnitReference) (f : Fault) → 12 ≤ rank f.reason
    → Precedes (OfAdded k)
    (in_record g.at.segment.file g.at.segment.slot g.at.rec reason.MissingUnit) f
missing_first k g f h = grind arith

-- what comes first in a slot comes first in its round
within_round : (k slot : ℕ) (x y : Fault)
    → (unwrap_or x.slot x.file ≡ slot) × (12 ≤ rank x.reason)
    → (unwrap_or y.slot y.file ≡ slot) × (12 ≤ rank y.reason)
    → Precedes OfSources x y → Precedes (OfAdded k) x y
within_round k slot x y a b p = grind (arith, reads)

-- the first fault of a name's unit in a slot is the smallest of its round
placed_least : (law : OneStop) (order : Order) (host : List ℕ) (libs : List (List ℕ))
    (k : ℕ) (name : List ℕ) (slot : ℕ) → Least (Precedes (OfAdded k))
    (PlacedFault order host libs name slot) (option_or (entry_fault order name libs slot)
    (option_and_then (code_fault order host libs slot role.Wanted) (unit_source order name libs)))
placed_least law order host libs k name slot =
    least_order (λ x y s t. within_round k slot x y (placed_late order host libs name slot x s)
    (placed_late order host libs name slot y t)) (unit_least law order host libs name slot)

pub missing : (order : Order) (libs : List (List ℕ)) (name : List ℕ)
    → Decides (is_missing order libs name) (IsMissing order libs name)
missing order libs name = Decides-or _ _ (of_test _) (none_has order name libs)

-- the first fault of a name in its round, with this slot or with none, is the smallest that applies
round_least : (law : OneStop) (order : Order) (host : List ℕ)
    (libs : List (List ℕ)) (k : ℕ) (g : UnitReference) (left : Option ℕ) → Least
    (Precedes (OfAdded k)) (RoundHas order host libs g left) (round_fault order host libs g left)
round_least law order host libs k g None =
    go (is_missing order libs g.name) (missing order libs g.name)
  where
    go : (b : Bool) → Decides b (IsMissing order libs g.name)
        → Least (Precedes (OfAdded k)) (RoundHas order host libs g None)
        (Some (in_record g.at.segment.file g.at.segment.slot g.at.rec
        (if b then reason.MissingUnit else reason.NoSlot)))
    go b h1 = grind (arith, this)
round_least law order host libs k g (Some slot) =
    least_same to from (least_else _ _ (missing order libs g.name) (placed_least law order host libs
    k g.name slot) (λ f p. missing_first k g f (placed_late order host libs g.name slot f p).1))
  where
    Parts : Fault → Type 0
    Parts f = ((f ≡ in_record g.at.segment.file g.at.segment.slot g.at.rec reason.MissingUnit)
        × IsMissing order libs g.name) ⊎ PlacedFault order host libs g.name slot f

    to : (f : Fault) → Parts f → RoundHas order host libs g (Some slot) f
    to f (inl t) = inl t
    to f (inr t) = inr (inr (slot, refl, t))

    from : (f : Fault) → RoundHas order host libs g (Some slot) f → Parts f
    from f (inl t) = inl t
    from f (inr (inl t)) = grind arith
    from f (inr (inr t)) = let same : t.0 ≡ slot = (let e = t.1 in cc) in inr (rw (← same) t.2)

-- 3. all rounds
abbrev pub Place : Type 0
Place = Step × Fault

abbrev pub Earlier : Place → Place → Type 0
Earlier p q = Before (key p.0 p.1) (key q.0 q.1)

-- the faults of one step, with the step
pub tagged : (step : Step) {S : Fault → Type 0} {o : Option Fault} → Least (Precedes step) S o
    → Least Earlier (λ p. (f : Fault) × (p ≡ (step, f)) × S f)
    (option_map (λ f. (step, f)) o)
tagged step l = least_map (λ f. (step, f)) l

-- what applies from round k on
abbrev FromRound : Order → List ℕ → List (List ℕ) → ℕ → Place → Type 0
FromRound order host libs k p = (j : ℕ) × (f : Fault) × (k ≤ j) × (p ≡ (OfAdded j, f))
    × InRound order host libs j f

-- the round that has this name, and this slot or none
the_round : (law : OneStop) (order : Order) (host : List ℕ) (libs : List (List ℕ))
    (prefix rest : List Segment) (k : ℕ) (g : UnitReference) (left : Option ℕ)
    → IsTurn order host libs prefix rest k g left → Least
    (Precedes (OfAdded k)) (InRound order host libs k) (round_fault order host libs g left)
the_round law order host libs prefix rest k g left turn =
    least_same to from (round_least law order host libs k g left)
  where
    first : slice_get (requested_units order host libs (take k (added_segments order host libs))) k
        ≡ Some g
    first = grind (arith, segments_before)

    within : k ≤ length (added_segments order host libs)
    within = grind (arith, length-append)

    to : (f : Fault) → RoundHas order host libs g left f → InRound order host libs k f
    to f h = (g, (within, first), rw turn.slot_is h)

    from : (f : Fault) → InRound order host libs k f → RoundHas order host libs g left f
    from f t =
        let same : t.0 ≡ g = (let e = t.1.1 in cc (e, first)) in
        rw (← turn.slot_is, ← same) t.2

module _ (order : Order) (host : List ℕ) (libs : List (List ℕ)) (k : ℕ) where
  -- the first fault of a round that has one is the smallest that applies from this round on
  first_there : (f : Fault) → Least (Precedes (OfAdded k)) (InRound order host libs k) (Some f)
      → Least Earlier (FromRound order host libs k) (Some (OfAdded k, f))
  first_there f l = least_same to from (least_or_then (tagged (OfAdded k) l) none apart)
    where
      Here : Place → Type 0
      Here p = (g : Fault) × (p ≡ (OfAdded k, g)) × InRound order host libs k g

      Later : Place → Type 0
      Later = FromRound order host libs (k + 1)

      none : option_map {U = Place} (λ g. (OfAdded k, g)) (Some f) ≡ None
          → Least Earlier Later None
      none e = absurd (cc)

      apart : (p q : Place) → Here p → Later q → Earlier p q
      apart p q s t = rw (s.1, t.3) (inr (refl, inl (let low = t.2 in omega (arith, low))))

      to : (p : Place) → Here p ⊎ Later p → FromRound order host libs k p
      to p (inl t) = (k, t.0, omega arith, t.1, t.2)
      to p (inr t) = (t.0, t.1, (let low = t.2 in omega (arith, low)), t.3, t.4)

      from : (p : Place) → FromRound order host libs k p → Here p ⊎ Later p
      from p t = elim (cases_lt k t.0) [
        | inl h ↦ inr (t.0, t.1, omega (arith, h), t.3, t.4)
        | inr h ↦ (let same : t.0 ≡ k = (let low = t.2 in omega (arith, low, h)) in
            inl (t.1, rw same at t.3, subst (λ (n : ℕ). InRound order host libs n t.1) same t.4))
      ]

  -- where no name is left, nothing applies
  no_name : (prefix : List Segment) → added_segments order host libs ≡ prefix
      → k ≡ length prefix → slice_get (requested_units order host libs prefix) k ≡ None
      → (p : Place) → FromRound order host libs k p → ⊥
  no_name prefix is at none p t =
      grind (arith, segments_before order host libs prefix [] k, append-nil)

-- the fault that ends the rounds from one on, with its step: as many rounds have none as add a
-- segment
abbrev pub place_of : ℕ → RoundsOutcome → Option Place
place_of k r = option_map (λ f. (OfAdded (k + length r.added), f)) r.fault

-- it is the smallest that applies from this round on
abbrev RoundsHave : Order → List ℕ → List (List ℕ) → ℕ → RoundsOutcome → Type 0
RoundsHave order host libs k r = Least Earlier (FromRound order host libs k) (place_of k r)

-- the fault of a round without one is that of the rounds after it
round_more : (order : Order) (host : List ℕ) (libs : List (List ℕ)) (k : ℕ)
    (s : Segment) (rest : RoundsOutcome) → ((f : Fault) → InRound order host libs k f → ⊥)
    → RoundsHave order host libs (k + 1) rest → RoundsHave order host libs k (after s rest)
round_more order host libs k s rest none r =
    let same : (k + 1) + length rest.added ≡ k + length (s ∷ rest.added) = omega arith in
    subst (λ (n : ℕ). Least Earlier (FromRound order host libs k)
    (option_map {U = Place} (λ f. (OfAdded n, f)) rest.fault)) same (least_same to from r)
  where
    to : (p : Place) → FromRound order host libs (k + 1) p → FromRound order host libs k p
    to p t = grind arith

    from : (p : Place) → FromRound order host libs k p → FromRound order host libs (k + 1) p
    from p t = elim (cases_lt k t.0) [
      | inl h ↦ (t.0, t.1, omega (arith, h), t.3, t.4)
      | inr h ↦ absurd (none t.1 (subst (λ (n : ℕ). InRound order host libs n t.1)
          (let a = t.2 in omega (arith, a, h)) t.4))
    ]

-- the fault that ends the rounds is the smallest that applies in any of them, by round and then by
-- fault
pub last_fault : (law : OneStop) (order : Order) (host : List ℕ) (libs : List (List ℕ))
    → Least Earlier (λ p. (k : ℕ) × (f : Fault) × (p ≡ (OfAdded k, f))
    × InRound order host libs k f) (place_of 0 (rounds order host libs))
last_fault law order host libs =
    least_same (λ p t. (t.0, t.1, t.3, t.4)) (λ p t. (t.0, t.1, omega arith, t.2, t.3)) r
  where
    here : (prefix rest : List Segment) (k : ℕ) (g : UnitReference) (slot : Option ℕ)
        (o : Option Fault) → IsTurn order host libs prefix rest k g slot → round_fault
        order host libs g slot ≡ o → Least (Precedes (OfAdded k)) (InRound order host libs k) o
    here prefix rest k g slot o turn is = grind (arith, the_round)

    r : RoundsHave order host libs 0 (rounds order host libs)
    r =
        all_rounds order host libs (RoundsHave order host libs)
        (λ prefix k is at none. nothing (no_name order host libs k prefix is at none))
        (λ prefix others k g slot f turn is. (let same : k ≡ k + 0 = omega arith in
        subst (λ (n : ℕ). Least Earlier (FromRound order host libs k) (Some (OfAdded n, f))) same
        (first_there order host libs k f (here prefix others k g slot (Some f) turn is))))
        (λ prefix others k g slot s rest turn fits from later.
        round_more order host libs k s rest
        (quiet (here prefix (s ∷ others) k g (Some slot) None turn fits)) later)

-- the same, with the fault alone
pub step_6 : (law : OneStop) (order : Order) (host : List ℕ) (libs : List (List ℕ))
    → (o : Option Place) × Least Earlier
    (λ p. (k : ℕ) × (f : Fault) × (p ≡ (OfAdded k, f)) × InRound order host libs k f) o
    × (option_map (λ (x : Place). x.1) o ≡ added_fault order host libs)
step_6 law order host libs = (
  place_of 0 (rounds order host libs),
  last_fault law order host libs,
  alone (added_fault order host libs),
)
  where
    alone : (o : Option Fault) → option_map (λ (x : Place). x.1)
        (option_map {U = Place}
        (λ f. (OfAdded (0 + length (rounds order host libs).added), f)) o) ≡ o
    alone None = refl
    alone (Some f) = refl
