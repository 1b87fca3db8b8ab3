-- Privates are by slot and then by record, where the segments are by slot; and so one is found by
-- binary search.
use Rattle.ps_resolve.proofs.Vocabulary.{◌≡◌, ℕ, zero, suc, ◌+◌, ◌<◌, ◌==◌, ◌&&◌, ◌||◌, ◌++◌, List, [], ◌∷◌, length, map, get_or, Bool, true, false, Option, Some, None, inl, inr, refl, sym, arith, find, nat_lt, cases_lt, cases_order, nat_tests, Record, AscendFrom, Owner, words_in, allotted_privates, private_words, all_allotted, is_from, RiseFrom, is_of, offset_listed, Private}
use Rattle.std.specs.Bool.{then_some}
use Rattle.std.proofs.lemmas.List.{get_or_default}
use Rattle.std.specs.List.Sorted.{IsPartitionedBy, IsPartitionPoint}

weaker : (a b c d : ℕ) (ps : List Private)
    → ((p : Private) → is_from a b p ≡ true → is_from c d p ≡ true) → RiseFrom a b ps
    → RiseFrom c d ps
weaker a b c d [] h r = tt
weaker a b c d (p ∷ ps) h r = (h p r.0, r.1)

-- the privates of the records of a segment rise, with those of later slots after them
prefixed : (slot : ℕ) (rs : List Record) (rec next : ℕ) (tail : List Private)
    → RiseFrom (slot + 1) 0 tail → RiseFrom slot rec
    (allotted_privates slot rec next rs ++ tail)
prefixed slot [] rec next tail h = grind (arith, weaker, nat_tests)
prefixed slot (r ∷ rs) rec next tail h =
    at (words_in r.body) refl (λ rec next. prefixed slot rs rec next tail h)
  where
    at : (w : Option ℕ) → words_in r.body ≡ w
        → ((rec next : ℕ) → RiseFrom slot rec (allotted_privates slot rec next rs ++ tail))
        → RiseFrom slot rec (allotted_privates slot rec next (r ∷ rs) ++ tail)
    at w e again = grind (
      arith,
      weaker slot (rec + 1) slot rec (allotted_privates slot (rec + 1) next rs ++ tail),
      nat_tests,
    )

-- the privates of segments that are by slot rise by slot and then by record
pub rise : (next from : ℕ) (ss : List Owner)
    → AscendFrom from (map (λ s. s.0.slot) ss) → RiseFrom from 0 (all_allotted next ss)
rise next from [] h = tt
rise next from (s ∷ ss) h =
    weaker s.0.slot 0 from 0 (all_allotted next (s ∷ ss)) (λ p k. grind arith)
    (prefixed s.0.slot s.1 0 next (all_allotted (next + private_words s.1) ss)
    (rise (next + private_words s.1) (s.0.slot + 1) ss h.1))

-- where privates rise from a record on, each of them is of this record or of a later one
all_behind : (a b : ℕ) (ps : List Private) (k : ℕ) (d : Private) → RiseFrom a b ps
    → k < length ps → is_from a b (get_or ps k d) ≡ true
all_behind a b [] k d h lt = absurd (omega arith)
all_behind a b (p ∷ ps) zero d h lt = h.0
all_behind a b (p ∷ ps) (suc k) d h lt =
    let later = all_behind p.slot (p.rec + 1) ps k d h.1 (omega arith) in
    grind (arith, nat_tests, h.0, later)

-- any later one is of a later record
pub behind : (a b : ℕ) (ps : List Private) (i j : ℕ) (d : Private) → RiseFrom a b ps → i < j
    → j < length ps → is_from (get_or ps i d).slot ((get_or ps i d).rec + 1) (get_or ps j d)
    ≡ true
behind a b [] i j d h le lt = absurd (omega arith)
behind a b (p ∷ ps) zero zero d h le lt = absurd (omega arith)
behind a b (p ∷ ps) zero (suc j) d h le lt = grind (arith, all_behind)
behind a b (p ∷ ps) (suc i) zero d h le lt = absurd (omega arith)
behind a b (p ∷ ps) (suc i) (suc j) d h le lt =
    behind p.slot (p.rec + 1) ps i j d h.1 (omega arith) (omega arith)

-- the private is of an earlier record
abbrev pub is_before : ℕ → ℕ → Private → Bool
is_before slot rec p = nat_lt p.slot slot || (p.slot == slot && nat_lt p.rec rec)

-- the privates that are of an earlier record are before all others
pub partitioned : (slot rec a b : ℕ) (ps : List Private) → RiseFrom a b ps
    → IsPartitionedBy (is_before slot rec) ps
partitioned slot rec a b ps h i j d le lt t = elim (cases_lt i j) [
  | inl less ↦ let later = behind a b ps i j d h less lt in
      grind (arith, nat_tests, later)
  | inr ge ↦ grind arith
]

-- an item that passes a test, where none before it does, is the one that is found
first_find : {X : Type 0} (q : X → Bool) (xs : List X) (i : ℕ) (x : X)
    → ((k : ℕ) → k < i → q (get_or xs k x) ≡ false) → i < length xs
    → x ≡ get_or xs i x → q x ≡ true → find q xs ≡ Some x
first_find q [] i x h lt is t = absurd (omega arith)
first_find q (y ∷ ys) zero x h lt is t = grind arith
first_find q (y ∷ ys) (suc i) x h lt is t =
    let e : q y ≡ false = h 0 (omega arith) in
    rw e (first_find q ys i x (λ k l. h (suc k) (omega arith)) (omega arith) is t)

no_find : {X : Type 0} (q : X → Bool) (xs : List X)
    → ((k : ℕ) (d : X) → k < length xs → q (get_or xs k d) ≡ false) → find q xs ≡ None
no_find q [] h = refl
no_find q (y ∷ ys) h = let e : q y ≡ false = h 0 y (omega arith) in
    rw e (no_find q ys (λ k d l. h (suc k) d (omega arith)))

module _ (slot rec a b : ℕ) (ps : List Private) (i : ℕ) (h : RiseFrom a b ps)
    (p : IsPartitionPoint (λ x. is_before slot rec x ≡ true)
    (λ x. is_before slot rec x ≡ false) ps i) where
  pub found_there : (x : Private) → i < length ps → x ≡ get_or ps i x
      → is_of slot rec x ≡ true → find (is_of slot rec) ps ≡ Some x
  found_there x lt is t = grind (arith, first_find)

  pub found_nowhere : ((d : Private) → i < length ps → is_of slot rec (get_or ps i d) ≡ false)
      → find (is_of slot rec) ps ≡ None
  found_nowhere other = no_find (is_of slot rec) ps (λ k d lt. elim (cases_order k i) [
    | inl same ↦ grind arith
    | inr (inl less) ↦ grind (arith, nat_tests)
    | inr (inr more) ↦ let at = p.1 i d (omega arith) (omega (arith, more, lt)) in let later =
        behind a b ps i k d h more lt in
        grind arith
  ])

module _ (slot rec : ℕ) {xs : List Private} (ps : List Private) {i : ℕ} (same : xs ≡ ps)
    (h : RiseFrom 0 0 xs)
    (p : IsPartitionedBy (is_before slot rec) xs
    → IsPartitionPoint (λ x. is_before slot rec x ≡ true)
    (λ x. is_before slot rec x ≡ false) xs i) where
  pub offset_seen : (x : Private) (b : Bool) → i < length xs → x ≡ get_or xs i x
      → b ≡ is_of slot rec x → then_some b x.offset ≡ offset_listed slot rec ps
  offset_seen x true lt is e =
      grind (arith, found_there slot rec 0 0 xs i h (p (partitioned slot rec 0 0 xs h)))
  offset_seen x false lt is e = grind (
    arith,
    found_nowhere slot rec 0 0 xs i h (p (partitioned slot rec 0 0 xs h))
        (λ d k. rw (get_or_default xs i d x k, ← is) (sym e)),
  )

  pub offset_none : nat_lt i (length xs) ≡ false
      → ◌≡◌ {A = Option ℕ} None (offset_listed slot rec ps)
  offset_none past = grind (
    arith,
    found_nowhere slot rec 0 0 xs i h (p (partitioned slot rec 0 0 xs h))
        (λ d k. grind (arith, nat_tests)),
  )
