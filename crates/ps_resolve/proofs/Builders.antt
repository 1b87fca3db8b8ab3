-- What the builders of definitions and of allotments say of their refusals, by looking back; and
-- how the privates of an allotment are.
use Rattle.ps_resolve.proofs.Vocabulary.{rules, ◌≡◌, ℕ, zero, suc, ◌+◌, ◌<◌, List, [], ◌∷◌, ◌++◌, length, length-append, take, map, Option, Some, None, Bool, true, refl, sym, ap, subst, ◌∙◌, inl, inr, arith, append_assoc, ◌==◌, ◌&&◌, ◌||◌, count_by, nat_le, nat_lt, Decides, enumerate_from, filter_map, slice_get, flat_map, option_map, option_or, cases_Bool, cases_lt, map-append, sum_by-append, sum_by-cons, get_or_from_slice_get, slice_get_within, Record, in_record, Fault, Reason, first_of, fault_if, definitions, first_duplicate, Owner, allotted_privates, private_words, private_fault, all_allotted, all_words, first_private_fault, RiseFrom, HasEarlierNamesake, is_definition, is_private_reference, words_taken, words_taken_by, IsStop, duplicate_fault, HaveNoNamesakes, StopsDefinitions, offset_at, HaveDistinctPrivates, HaveRoom, IsUnfit, IsFirstUnfit, StopsPrivates, requested_in, all_requested, requested_of, AreByRecord, words_of_all, Private, Stop, MAX_NEXT_FREE}
use Rattle.ps_words.specs.declared.fault.Reason.TheVariants as reason
use Rattle.ps_resolve.specs.First.{Before}
use Rattle.ps_reading.specs.Standing.Phrases.{SomeItem}
use Rattle.ps_reading.specs.declared.locations.SegmentAt.{SegmentAt}
use Rattle.ps_resolve.specs.declared.linkage.Stop.TheVariants.{Refused, Memory}
use Rattle.ps_resolve.proofs.LookingBack.{is_again, again, definitions_carried, words_before, reason_at, record_fault, privates_carried}
use Rattle.ps_reading.proofs.NextItems.{take_prefix, longer}
use Rattle.ps_resolve.proofs.AllottedPrivates.{privates_counted}
use Rattle.ps_resolve.proofs.Duplicates.{definitions_counted}
use Rattle.ps_reading.proofs.FirstSlots.{some_mapped}
use Rattle.ps_resolve.proofs.PrivatesRise.{behind}

-- the first that f gives of a list's items and their numbers
record Given {A X : Type 0} (f : ℕ × A → Option X) (n : ℕ) (items : List A) (x : X) : Type 0
  where
    at : ℕ
    item : A
    there : slice_get items at ≡ Some item
    gives : (k : ℕ) → k ≡ n + at → f (k, item) ≡ Some x
    before : (j k : ℕ) (b : A) → j < at → k ≡ n + j → slice_get items j ≡ Some b
        → f (k, b) ≡ None

-- where it gives none of any, it gives none of each
none_given : {A X : Type 0} (f : ℕ × A → Option X) (n : ℕ) (items : List A)
    → first_of f (enumerate_from n items) ≡ None → (i k : ℕ) (a : A) → k ≡ n + i
    → slice_get items i ≡ Some a → f (k, a) ≡ None
none_given f n [] h i k a is e = absurd (cc)
none_given f n (b ∷ items) h zero k a is e = grind arith
none_given f n (b ∷ items) h (suc i) k a is e = grind (arith, none_given f (n + 1) items)

-- what it gives of some is what it gives of one, and it gives none of those before
some_given : {A X : Type 0} (f : ℕ × A → Option X) (n : ℕ) (items : List A) (x : X)
    → first_of f (enumerate_from n items) ≡ Some x → Given f n items x
some_given f n [] x h = absurd (cc)
some_given {A} {X} f n (a ∷ items) x h =
    go (f (n, a)) refl h (λ e. some_given f (n + 1) items x e)
  where
    go : (o : Option X) → f (n, a) ≡ o
        → option_or o (first_of f (enumerate_from (n + 1) items)) ≡ Some x
        → (first_of f (enumerate_from (n + 1) items) ≡ Some x → Given f (n + 1) items x)
        → Given f n (a ∷ items) x
    go (Some y) g h rest = record {
      at = zero;
      item = a;
      there = refl;
      gives = grind arith;
      before = grind arith;
    }
    go None g h rest =
        let later = rest h in
        record {
          at = suc later.at;
          item = later.item;
          there = later.there;
          gives = λ k is. later.gives k (omega (arith, is));
          before = earlier later;
        }
      where
        earlier : (later : Given f (n + 1) items x) → (j k : ℕ) (b : A) → j < suc later.at
            → k ≡ n + j → slice_get (a ∷ items) j ≡ Some b → f (k, b) ≡ None
        earlier later zero k b lt is e =
            subst (λ (m : ℕ). f (m, b) ≡ None) (omega (arith, is))
            (subst (λ (c : A). f (n, c) ≡ None) (cc) g)
        earlier later (suc j) k b lt is e =
            later.before j k b (omega (arith, lt)) (omega (arith, is)) e

-- a fault that is there where P holds
not_there : {X P : Type 0} (b : Bool) (x : X) → Decides b P → fault_if b x ≡ None → P
    → ⊥
not_there b x d h p = grind arith

is_there : {X P : Type 0} (b : Bool) (x y : X) → Decides b P → fault_if b x ≡ Some y
    → P × (y ≡ x)
is_there b x y d h = grind arith

-- where some items pass a test, one does
some_counted : {A : Type 0} (test : A → Bool) (items : List A) → 0 < count_by test items
    → SomeItem items (λ _ a. test a ≡ true)
some_counted test [] h = absurd (omega (arith, h))
some_counted test (a ∷ items) h = elim (cases_Bool (test a)) [
  | inl passes ↦ (zero, a, refl, passes)
  | inr fails ↦ let t = some_counted test items (grind arith) in
      (suc t.0, t.1, t.2, t.3)
]

-- 1. definitions
module _ (file slot : ℕ) (rs : List Record) where
  abbrev told : ℕ → Fault
  told rec = in_record file slot rec reason.DoubledDefinition

  abbrev again_fault : ℕ × Record → Option Fault
  again_fault r = fault_if (is_again is_definition rs r) (told r.0)

  -- the search that carries the definitions so far, from the first record on
  looking_back : option_map told (first_duplicate rs) ≡ first_of again_fault (enumerate_from 0 rs)
  looking_back = definitions_carried told [] rs 0 refl

  pub defined_once : first_duplicate rs ≡ None → HaveNoNamesakes is_definition rs
  defined_once once rec r there is =
      not_there (is_again is_definition rs (rec, r)) (told rec) (again is_definition rs rec r)
      (none_given again_fault 0 rs (sym looking_back ∙ ap (option_map told) once) rec rec r
      (omega arith) there) is

  pub stops_definitions : (stop : Stop) → IsStop (0 < length (definitions rs))
      (duplicate_fault file slot rs) stop → StopsDefinitions file slot rs stop
  stops_definitions (Refused fault) d =
      let found = some_given again_fault 0 rs fault (sym looking_back ∙ d) in
      let at = found.at in
      let here = is_there (is_again is_definition rs (at, found.item)) (told at) fault
      (again is_definition rs at found.item) (found.gives at (omega arith)) in (
        at,
        record {
          item = found.item;
          there = found.there;
          again = here.0;
          first = λ n r lt there is. not_there (is_again is_definition rs (n, r)) (told n)
              (again is_definition rs n r) (found.before n n r lt (omega arith) there) is;
        },
        here.1,
      )
  stops_definitions Memory d = grind (arith, some_counted, definitions_counted)

  -- why definitions stop, with the number of the record
  abbrev IsNamed : Stop → Type 0
  IsNamed (Refused fault) = (rec : ℕ) × (first_duplicate rs ≡ Some rec) × (fault ≡ told rec)
  IsNamed Memory = 0 < length (definitions rs)

  pub not_defined : (stop : Stop) → IsNamed stop → StopsDefinitions file slot rs stop
  not_defined stop d = grind (arith, stops_definitions)

-- 2. the words before a record
words_are : (rs : List Record) → words_taken_by rs ≡ private_words rs
words_are [] = refl
words_are (r ∷ rs) = search (rules, sum_by-cons, words_before, words_are rs)

all_are : (ss : List Owner) → words_taken_by (flat_map (λ (q : Owner). q.1) ss) ≡ all_words ss
all_are [] = refl
all_are (s ∷ ss) = grind (arith, sum_by-append, words_are, all_are ss)

one_behind : (prefix : List Owner) (s : Owner)
    → all_words (prefix ++ s ∷ []) ≡ all_words prefix + private_words s.1
one_behind [] s = omega arith
one_behind (q ∷ prefix) s = omega (arith, one_behind prefix s)

-- the offset at a record of the first segment after a prefix
offset_is : (base : ℕ) (prefix : List Owner) (s : Owner) (rest : List Owner) (rec : ℕ)
    → offset_at base (prefix ++ s ∷ rest) (length prefix) s.1 rec
    ≡ base + all_words prefix + private_words (take rec s.1)
offset_is base prefix s rest rec =
    rw (take_prefix prefix (s ∷ rest)) (omega (
      arith,
      sum_by-append (λ (r : Record). words_taken r.body)
          (flat_map (λ (q : Owner). q.1) prefix) (take rec s.1),
      all_are prefix,
      words_are (take rec s.1),
    ))

-- 3. privates
module _ (base : ℕ) (ss : List Owner) where
  abbrev record_faults : ℕ × Owner → ℕ × Record → Option Fault
  record_faults k = record_fault (λ why rec. in_record k.1.0.file k.1.0.slot rec why)
      (λ rec. offset_at base ss k.0 k.1.1 rec) k.1.1

  abbrev segment_fault : ℕ × Owner → Option Fault
  segment_fault k = first_of (record_faults k) (enumerate_from 0 k.1.1)

  -- the search that carries the offset so far is the one that looks back over the segments
  segments_carried : (prefix rest : List Owner) (n : ℕ)
      → ss ≡ prefix ++ rest → n ≡ length prefix
      → first_private_fault (base + all_words prefix) rest
      ≡ first_of segment_fault (enumerate_from n rest)
  segments_carried prefix [] n is e = refl
  segments_carried prefix (s ∷ rest) n is e =
      let start = base + all_words prefix in
      let h : Reason → ℕ → Fault = λ why rec. in_record s.0.file s.0.slot rec why in
      let mine : option_map (λ (f : ℕ × Reason). h f.1 f.0) (private_fault 0 start [] s.1)
      ≡ segment_fault (n, s) =
      ap (λ (m : ℕ). option_map (λ (f : ℕ × Reason). h f.1 f.0)
      (private_fault 0 m [] s.1)) (omega arith)
      ∙ privates_carried h (λ rec. offset_at base ss n s.1 rec) start [] s.1 0 refl
      (λ rec. ap (λ (qs : List Owner). offset_at base qs n s.1 rec) is
      ∙ (ap (λ (k : ℕ). offset_at base (prefix ++ s ∷ rest) k s.1 rec) e
      ∙ offset_is base prefix s rest rec)) in
      let later : first_private_fault (start + private_words s.1) rest
      ≡ first_of segment_fault (enumerate_from (n + 1) rest) =
      grind (
        arith,
        one_behind,
        append_assoc,
        longer,
        segments_carried (prefix ++ s ∷ []) rest (n + 1)
            (is ∙ sym (append_assoc prefix (s ∷ []) rest))
            (omega (arith, longer prefix s, e)),
      ) in
      grind arith

  segments_back : first_private_fault base ss ≡ first_of segment_fault (enumerate_from 0 ss)
  segments_back = ap (λ (n : ℕ). first_private_fault n ss) (omega arith)
      ∙ segments_carried [] ss 0 refl refl

  module _ (k : ℕ) (rs : List Record) (rec : ℕ) (r : Record) where
    abbrev full : Bool
    full = is_private_reference r.body && nat_lt MAX_NEXT_FREE
        (offset_at base ss k rs rec + words_taken r.body)

    is_full : Decides full ((is_private_reference r.body ≡ true)
        × (MAX_NEXT_FREE < offset_at base ss k rs rec + words_taken r.body))
    is_full = grind arith

    neither : reason_at (λ n. offset_at base ss k rs n) rs (rec, r) ≡ None
        → (fault_if (is_again is_private_reference rs (rec, r)) reason.DoubledPrivate
        ≡ None) × (fault_if full reason.NoRoom ≡ None)
    neither e = grind arith

    -- a record without a fault is not unfit
    fits : reason_at (λ n. offset_at base ss k rs n) rs (rec, r) ≡ None → (why : Reason)
        → IsUnfit base ss k rs rec r why → ⊥
    fits e reason.DoubledPrivate u = not_there
        (is_again is_private_reference rs (rec, r)) reason.DoubledPrivate
        (again is_private_reference rs rec r) (neither e).0 u
    fits e reason.NoRoom u = not_there full reason.NoRoom is_full (neither e).1 (u.1, u.2)
    fits e other u = u

    -- a record is unfit by the reason that the search gives
    unfit : (why : Reason) → reason_at (λ n. offset_at base ss k rs n) rs (rec, r)
        ≡ Some why → IsUnfit base ss k rs rec r why
    unfit why e = go (is_again is_private_reference rs (rec, r)) full
        (again is_private_reference rs rec r) is_full e
      where
        go : (b c : Bool) → Decides b (HasEarlierNamesake is_private_reference rs rec r)
            → Decides c ((is_private_reference r.body ≡ true)
            × (MAX_NEXT_FREE < offset_at base ss k rs rec + words_taken r.body))
            → option_or (fault_if b reason.DoubledPrivate) (fault_if c reason.NoRoom) ≡ Some why
            → IsUnfit base ss k rs rec r why
        go b c d f h = search rules

  none_in : (k : ℕ) (place : SegmentAt) (rs : List Record)
      → segment_fault (k, (place, rs)) ≡ None → (rec : ℕ) (r : Record)
      → slice_get rs rec ≡ Some r → (why : Reason) → IsUnfit base ss k rs rec r why → ⊥
  none_in k place rs e rec r there =
      grind (arith, fits, none_given (record_faults (k, (place, rs))) 0 rs e rec rec r)

  none_unfit : first_private_fault base ss ≡ None → (k : ℕ) (place : SegmentAt)
      (rs : List Record) (rec : ℕ) (r : Record) → slice_get ss k ≡ Some (place, rs)
      → slice_get rs rec ≡ Some r → (why : Reason) → IsUnfit base ss k rs rec r why → ⊥
  none_unfit e k place rs rec r of there = none_in k place rs
      (none_given segment_fault 0 ss (sym segments_back ∙ e) k k (place, rs) (omega arith) of)
      rec r there

  pub distinct_names : first_private_fault base ss ≡ None → HaveDistinctPrivates ss
  distinct_names e k place rs of rec r there is =
      none_unfit e k place rs rec r of there reason.DoubledPrivate is

  pub room : first_private_fault base ss ≡ None → HaveRoom base ss
  room e k rec place rs r of there requests =
      elim (cases_lt MAX_NEXT_FREE (offset_at base ss k rs rec + words_taken r.body)) [
        | inl lt ↦ absurd (none_unfit e k place rs rec r of there reason.NoRoom (
          grind (arith, distinct_names),
          requests,
          lt,
        ))
        | inr le ↦ le
      ]

  -- the first segment with a fault, and its first record with one
  first_unfit : (fault : Fault) → first_private_fault base ss ≡ Some fault
      → IsFirstUnfit base ss fault
  first_unfit fault e =
      let found = some_given segment_fault 0 ss fault (sym segments_back ∙ e) in
      let k = found.at in
      let s = found.item in
      let one = some_given (record_faults (k, s)) 0 s.1 fault (found.gives k (omega arith)) in
      let why = some_mapped (λ (w : Reason). in_record s.0.file s.0.slot one.at w)
      (reason_at (λ n. offset_at base ss k s.1 n) s.1 (one.at, one.item)) fault
      (one.gives one.at (omega arith)) in
      record {
        segment = k;
        rec = one.at;
        place = s.0;
        records = s.1;
        item = one.item;
        why = why.0;
        of = found.there;
        there = one.there;
        unfit = unfit k s.1 one.at one.item why.0 why.1;
        told = why.2;
        first = λ j n q rs r other of there u b. elim b [
          | inl lt ↦ none_in j q rs (found.before j j (q, rs) lt (omega arith) of) n r there
              other u
          | inr t ↦ elim t.1 [
            | inl lt ↦ same_segment k s one.at found.there one.before j n q rs r
                other of there u t.0 lt
            | inr x ↦ x.1
          ]
        ];
      }
    where
      same_segment : (k : ℕ) (s : Owner) (rec : ℕ)
          → slice_get ss k ≡ Some s → ((j i : ℕ) (b : Record) → j < rec → i ≡ 0 + j
          → slice_get s.1 j ≡ Some b → record_faults (k, s) (i, b) ≡ None)
          → (j n : ℕ) (q : SegmentAt) (rs : List Record) (r : Record) (other : Reason)
          → slice_get ss j ≡ Some (q, rs) → slice_get rs n ≡ Some r
          → IsUnfit base ss j rs n r other → j ≡ k → n < rec → ⊥
      same_segment k s rec at_k before j n q rs r other of there u h lt =
          grind (arith, fits, before n n r)

-- where a private of segments is allotted, a record of one of them requests it
some_segment : (next : ℕ) (ss : List Owner) → 0 < length (all_allotted next ss)
    → SomeItem ss (λ k s. SomeItem s.1 (λ rec r. is_private_reference r.body ≡ true))
some_segment next [] h = absurd (omega (arith, h))
some_segment next (s ∷ ss) h =
    elim (cases_lt 0 (length (allotted_privates s.0.slot 0 next s.1))) [
      | inl some ↦ (
        zero,
        s,
        refl,
        grind (arith, some_counted, privates_counted),
      )
      | inr none ↦
          let t = some_segment (next + private_words s.1) ss
          (omega (
            arith,
            h,
            none,
            length-append (allotted_privates s.0.slot 0 next s.1)
                (all_allotted (next + private_words s.1) ss),
          )) in
          (suc t.0, t.1, t.2, t.3)
    ]

pub not_allotted : (base : ℕ) (ss : List Owner) (stop : Stop)
    → IsStop (0 < length (all_allotted base ss)) (first_private_fault base ss) stop
    → StopsPrivates base ss stop
not_allotted base ss stop d = grind (arith, first_unfit, some_segment)

-- 4. what is allotted
-- slots first, then records
later_record : (a b s r : ℕ) → (nat_lt a s || (a == s && nat_le (b + 1) r)) ≡ true
    → Before (a ∷ b ∷ []) (s ∷ r ∷ [])
later_record a b s r h = grind arith

-- privates whose slot and record rise are by slot and, of one slot, by record
pub by_record : (ps : List Private) → RiseFrom 0 0 ps → AreByRecord ps
by_record ps rises i j p q lt is_p is_q =
    grind (
      arith,
      behind 0 0 ps i j p rises lt (slice_get_within ps j q is_q),
      get_or_from_slice_get ps i p p is_p,
      get_or_from_slice_get ps j q p is_q,
      later_record p.slot p.rec q.slot q.rec,
    )

-- the privates have the words that their records request
words_allotted : (slot rec next : ℕ) (rs : List Record)
    → words_of_all (allotted_privates slot rec next rs) ≡ private_words rs
words_allotted slot rec next [] = refl
words_allotted slot rec next (r ∷ rs) =
    let rest = λ (n : ℕ). words_allotted slot (rec + 1) n rs in
    let more = λ (w : ℕ). sum_by-cons (λ (p : Private). p.words)
    (record { slot = slot; rec = rec; name = r.name; offset = next; words = w })
    (allotted_privates slot (rec + 1) (next + w) rs) in
    grind arith

-- the privates of all segments have the words of all
pub summed : (next : ℕ) (ss : List Owner) → words_of_all (all_allotted next ss) ≡ all_words ss
summed next [] = refl
summed next (s ∷ ss) =
    grind (arith, sum_by-append, words_allotted, summed (next + private_words s.1) ss)

-- the privates of a segment, without their offsets
requested_allotted : (place : SegmentAt) (rec next : ℕ) (rs : List Record)
    → map requested_of (allotted_privates place.slot rec next rs)
    ≡ filter_map (requested_in place) (enumerate_from rec rs)
requested_allotted place rec next [] = refl
requested_allotted place rec next (r ∷ rs) =
    let rest = λ (n : ℕ). requested_allotted place (rec + 1) n rs in
    grind arith

-- the privates of all segments are what all records request
pub requested : (next : ℕ) (ss : List Owner)
    → map requested_of (all_allotted next ss) ≡ all_requested ss
requested next [] = refl
requested next (s ∷ ss) =
    grind (arith, map-append, requested_allotted, requested (next + private_words s.1) ss)
