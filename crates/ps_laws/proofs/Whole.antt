-- The first fault of all is the smallest that is.
use Rattle.ps_laws.proofs.Vocabulary.{◌⊎◌, ◌≢◌, slice_get, cases_lt, option_or, option_map, order_of, added_fault, Step, OfHost, OfSlots, OfNoHost, OfLibraries, OfSources, OfAdded, OfDefinitions, OfPrivates, OfDataSize, OfReferences, key, InRound, Order, Fault, ◌≡◌, ℕ, ◌+◌, ◌<◌, ◌≤◌, List, [], ◌∷◌, Option, Some, None, refl, sym, ap, subst, ◌∙◌, inl, inr, arith, segments, turn, StandsIn, FaultAt, NoneStandsInReading, IsFirst, both_none}
use Rattle.ps_resolve.specs.Faults.{sources_fault, linking_fault}
use Rattle.ps_resolve.specs.AllFaults.{first_fault, reading_fault}
use Rattle.ps_laws.proofs.Least.{Least, nothing, this, Precedes, least_same, least_or, least_or_then, not_both}
use Rattle.ps_laws.proofs.Steps.{step_1, step_2, step_3, step_4}
use Rattle.ps_laws.proofs.Sources.{OneStop, step_5}
use Rattle.ps_laws.proofs.Rounds.{Place, Earlier, tagged, step_6}
use Rattle.ps_laws.proofs.Definitions.{step_7, step_9}
use Rattle.ps_laws.proofs.Privates.{step_8}
use Rattle.ps_laws.proofs.References.{step_10}

-- what applies from a turn on, and before another
abbrev Between : Order → List ℕ → List (List ℕ) → ℕ → ℕ → Place → Type 0
Between order host libs n m p = (n ≤ turn p.0) × (turn p.0 < m)
    × StandsIn p.0 order host libs p.1

-- a step by its turn, which each round has alike
steps : List Step
steps = OfHost ∷ OfHost ∷ OfSlots ∷ OfNoHost ∷ OfLibraries ∷ OfSources ∷ OfAdded 0
    ∷ OfDefinitions ∷ OfPrivates ∷ OfDataSize ∷ OfReferences ∷ []

-- a step that is no round is the one at its turn
turn_back : (s : Step) → turn s ≢ 6 → slice_get steps (turn s) ≡ Some s
unfolding steps
turn_back s h = grind arith

-- the turns of the steps are 1 to 10
turn_bounds : (s : Step) → (1 ≤ turn s) × (turn s < 11)
turn_bounds s = grind arith

same_turn : (s t : Step) → turn s ≡ turn t → turn t ≢ 6 → s ≡ t
same_turn s t e h = grind (arith, turn_back)

-- a key begins with its step's turn
key_turn : (s : Step) (f : Fault) → (rest : List ℕ) × (key s f ≡ turn s ∷ rest)
key_turn OfHost f = (_, refl)
key_turn other f = (_, refl)

-- a fault of an earlier turn comes earlier
earlier_turn : (x y : Place) → turn x.0 < turn y.0 → Earlier x y
earlier_turn x y h = grind (arith, key_turn)

-- the faults of a queue of turns, with their steps, and that they are these
abbrev Turns : List ℕ → List (List ℕ) → ℕ → ℕ → Option Fault → Type 0
Turns host libs n m fault = (o : Option Place)
    × Least Earlier (Between (order_of host) host libs n m) o
    × (option_map (λ (x : Place). x.1) o ≡ fault)

module _ (host : List ℕ) (libs : List (List ℕ)) where
  abbrev order : Order
  order = order_of host

  -- the turn of a step that is no round
  alone : (step : Step) (n next : ℕ) {o : Option Fault} → (turn step ≡ n) × (n + 1 ≡ next)
      × (n ≢ 6) → Least (Precedes step) (StandsIn step order host libs) o
      → Turns host libs n next o
  alone step n next {o} is l = (_, least_same to from (tagged step l), untag o)
    where
      Own : Place → Type 0
      Own q = (f : Fault) × (q ≡ (step, f)) × StandsIn step order host libs f

      to : (q : Place) → Own q → Between order host libs n next q
      to q t = subst (λ (x : Place). Between order host libs n next x) (sym t.1)
          (omega arith, omega arith, t.2)

      from : (q : Place) → Between order host libs n next q → Own q
      from q t =
          let same : q.0 ≡ step = same_turn q.0 step (let a = t.0 in let b = t.1 in
          omega (arith, a, b)) (omega arith) in
          (q.1, ap (λ s. (s, q.1)) same, subst (λ s. StandsIn s order host libs q.1) same t.2)

      untag : (o : Option Fault)
          → option_map {U = Fault} (λ (x : Place). x.1) (option_map (λ f. (step, f)) o) ≡ o
      untag o = grind arith

  -- turns before those that are later, which are looked at only if these have no fault
  join : (n k m : ℕ) {f g : Option Fault} → (n ≤ k) × (k ≤ m) → Turns host libs n k f
      → (f ≡ None → Turns host libs k m g) → Turns host libs n m (option_or f g)
  join n k m {f} {g} is t next = go t.0 t.1 t.2
    where
      to : (p : Place) → Between order host libs n k p ⊎ Between order host libs k m p
          → Between order host libs n m p
      to p h = grind arith

      from : (p : Place) → Between order host libs n m p
          → Between order host libs n k p ⊎ Between order host libs k m p
      from p t = grind (arith, cases_lt)

      apart : (x y : Place) → Between order host libs n k x → Between order host libs k m y
          → Earlier x y
      apart x y s t = earlier_turn x y (let a = s.1 in let b = t.0 in omega (arith, a, b))

      go : (o : Option Place) → Least Earlier (Between order host libs n k) o
          → option_map (λ (x : Place). x.1) o ≡ f → Turns host libs n m (option_or f g)
      go None l e = let rest = next (sym e) in let is = ap (λ h. option_or h g) e in
          (rest.0, least_same to from (least_or l rest.1 apart), rest.2 ∙ is)
      go (Some p) l e = let m = least_or_then {p = None} l (λ n. absurd (cc)) apart in
          (Some p, least_same to from m, ap (λ h. option_or h g) e)

  -- the rounds are one turn
  rounds_turn : (law : OneStop) → Turns host libs 6 7 (added_fault order host libs)
  rounds_turn law = let r = step_6 law order host libs in (r.0, least_same to from r.1, r.2)
    where
      OfRound : Place → Type 0
      OfRound p = (k : ℕ) × (f : Fault) × (p ≡ (OfAdded k, f)) × InRound order host libs k f

      to : (p : Place) → OfRound p → Between order host libs 6 7 p
      to p t = subst (λ (q : Place). Between order host libs 6 7 q) (sym t.2)
          (omega arith, omega arith, t.3)

      from : (p : Place) → Between order host libs 6 7 p → OfRound p
      from (OfAdded k, f) t = (k, f, refl, t.2)
      from (other, f) t = absurd (let a = t.0 in let b = t.1 in omega (arith, a, b))

  -- the first fault of reading is the smallest that applies in turns 1 to 6
  reading : (law : OneStop) → Turns host libs 1 7 (reading_fault host libs)
  unfolding reading_fault
  reading law =
      join 1 2 7 (omega arith) (alone OfHost 1 2 (omega arith) (step_1 host)) (λ e.
      join 2 3 7 (omega arith) (alone OfSlots 2 3 (omega arith) (step_2 order host)) (λ e.
      join 3 4 7 (omega arith) (alone OfNoHost 3 4 (omega arith) (step_3 order host)) (λ e.
      join 4 5 7 (omega arith) (alone OfLibraries 4 5 (omega arith) (step_4 order libs)) (λ e.
      join 5 6 7 (omega arith) (alone OfSources 5 6 (omega arith) (step_5 law order host libs))
      (λ e. rounds_turn law)))))

  -- where nothing is wrong with what is read, nothing is with the sources of the slots, nor with
  -- the units that are added
  pub none_read : reading_fault host libs ≡ None → (sources_fault order host libs
      ≡ None) × (added_fault order host libs ≡ None)
  unfolding reading_fault
  none_read e = grind (arith, both_none)

  -- the first fault of linking is the smallest that applies in turns 7 to 10, where the rounds end
  -- without a fault
  linking : added_fault order host libs ≡ None
      → Turns host libs 7 11 (linking_fault order (segments order host libs))
  unfolding linking_fault
  linking fine =
      join 7 8 11 (omega arith) (alone OfDefinitions 7 8 (omega arith) (step_7 order host libs))
      (λ e.
      join 8 9 11 (omega arith) (alone OfPrivates 8 9 (omega arith) (step_8 order host libs)) (λ e.
      join 9 10 11 (omega arith) (alone OfDataSize 9 10 (omega arith) (step_9 order host libs))
      (λ e.
      alone OfReferences 10 11 (omega arith) (step_10 order host libs fine))))

  -- the faults of all steps
  whole : (law : OneStop) → Turns host libs 1 11 (first_fault host libs)
  unfolding first_fault
  whole law = join 1 7 11 (omega arith) (reading law) (λ e. linking (none_read e).1)

module _ (host : List ℕ) (libs : List (List ℕ)) where
  -- the fault of the smallest place of all turns is the first
  first_place : (o : Option Place) (f : Fault) → Least Earlier (Between (order_of host)
      host libs 1 11) o → option_map (λ (x : Place). x.1) o ≡ Some f → IsFirst host libs f
  first_place None f l e = absurd (cc)
  first_place (Some p) f l e = go l
    where
      same : p.1 ≡ f
      same = cc

      lower : (q : Place) → Between (order_of host) host libs 1 11 p → ((y : Place) → Between
          (order_of host) host libs 1 11 y → (y ≡ p) ⊎ Earlier p y) → IsFirst host libs p.1
      lower q s l = record {
        step = p.0;
        stands = record { stands = s.2 };
        least = λ t g h. elim (l (t, g) ((turn_bounds t).0, (turn_bounds t).1, h.stands)) [
          | inl e ↦ inl (ap (λ (x : Place). x.0) e, ap (λ (x : Place). x.1) e)
          | inr b ↦ inr b
        ];
      }

      go : Least Earlier (Between (order_of host) host libs 1 11) (Some p) → IsFirst host libs f
      go (this x s l) = subst (IsFirst host libs) same (lower p s l)

  no_place : (o : Option Place) → Least Earlier (Between (order_of host) host libs 1 11) o
      → option_map (λ (x : Place). x.1) o ≡ None
      → (step : Step) (f : Fault) → FaultAt host libs step f → ⊥
  no_place (Some p) l e step f h = absurd (cc)
  no_place None (nothing n) e step f h =
      n (step, f) ((turn_bounds step).0, (turn_bounds step).1, h.stands)

module _ (law : OneStop) (host : List ℕ) (libs : List (List ℕ)) where
  pub some : (f : Fault) → first_fault host libs ≡ Some f → IsFirst host libs f
  some f e = let w = whole host libs law in first_place host libs w.0 f w.1 (w.2 ∙ e)

  pub none : first_fault host libs ≡ None
      → (step : Step) (f : Fault) → FaultAt host libs step f → ⊥
  none e = let w = whole host libs law in no_place host libs w.0 w.1 (w.2 ∙ e)

  -- no two faults are the first
  pub one : (f g : Fault) → IsFirst host libs f → IsFirst host libs g → f ≡ g
  one f g a b = grind (arith, not_both)

  -- the fault that is the first is the one that is found
  pub only : (f : Fault) → IsFirst host libs f → first_fault host libs ≡ Some f
  only f a = go (first_fault host libs) refl
    where
      go : (o : Option Fault) → first_fault host libs ≡ o → o ≡ Some f
      go None e = grind (arith, none)
      go (Some g) e = ap (λ x. Some x) (one g f (some g e) a)

-- what is computed for the steps of reading, and what applies in them
module _ (law : OneStop) (host : List ℕ) (libs : List (List ℕ)) where
  -- where no fault of reading is found, none applies
  pub read : reading_fault host libs ≡ None → NoneStandsInReading host libs
  read e step f early h = let w = reading host libs law in go w.0 w.1 (w.2 ∙ e)
    where
      go : (o : Option Place) → Least Earlier (Between (order_of host) host libs 1 7) o
          → option_map (λ (x : Place). x.1) o ≡ None → ⊥
      go None (nothing n) is = n (step, f) ((turn_bounds step).0, early, h.stands)
      go (Some p) l is = absurd (cc)

  -- where no fault of reading applies, none is found
  pub unread : NoneStandsInReading host libs → reading_fault host libs ≡ None
  unread none_in = let w = reading host libs law in sym w.2 ∙ go w.0 w.1
    where
      go : (o : Option Place) → Least Earlier (Between (order_of host) host libs 1 7) o
          → option_map (λ (x : Place). x.1) o ≡ None
      go None l = refl
      go (Some p) (this q s l) = absurd (none_in p.0 p.1 s.1 (record { stands = s.2 }))
