-- The one table of segments: the host's own by slot, into which the added ones are put.
use Rattle.ps_reading.proofs.Vocabulary.{◌≡◌, ◌≢◌, ℕ, zero, suc, ◌+◌, ◌<◌, ◌≤◌, List, [], ◌∷◌, ◌++◌, length, take, drop, get_or, get_or_default, Bool, true, false, if◌then◌else◌, Option, Some, None, Result, Ok, refl, sym, ◌∙◌, ap, subst, arith, All, is_none, nat_lt, filter, filter_map, find, insert, range_with_len, option_map_or, option_or, result_ok, All-nil, All-cons, All-head, All-tail, All-append, All-weaker, filter_passes, find-append, take-append-drop, drop_all, Order, Reason, is_empty, Role, Segment, is_role, source_fault, AscendFrom, UnitReference, FIRST_ADDED, MAX_ADDED, SLOT_COUNT, SLOTS}
use Rattle.ps_codefile.specs.declared.entry.Role.TheVariants as role
use Rattle.ps_reading.specs.Added.{added_segment, empty_slots}
use Rattle.ps_reading.specs.Readings.{read_segment, read_segments}
use Rattle.ps_reading.specs.KnownSegments.{is_in_slot, put_by_slot, segment_in_slot, segments_in_slots}
use Rattle.ps_reading.proofs.EachSegment.{added_made}
use Rattle.ps_reading.proofs.InSlots.{InPlace, found_there, same_kept}
use Rattle.ps_lists.proofs.Items.{find_passes}
use Rattle.ps_reading.proofs.ReadingKnown.{own_parts}
use Rattle.ps_reading.proofs.NextItems.{drop_at}

-- 1. where a segment goes
-- a segment goes before one of a later slot, and after one of another
pub put_before : (s x : Segment) (xs : List Segment) → s.slot < x.slot
    → put_by_slot s (x ∷ xs) ≡ s ∷ x ∷ xs
put_before s x xs h = grind arith

pub put_after : (s x : Segment) (xs : List Segment) → x.slot ≤ s.slot
    → put_by_slot s (x ∷ xs) ≡ x ∷ put_by_slot s xs
put_after s x xs h = grind arith

-- where the first segments are not of later slots, a segment goes behind them
pub put_behind : (s : Segment) (xs ys : List Segment) → All (λ x. x.slot ≤ s.slot) xs
    → put_by_slot s (xs ++ ys) ≡ xs ++ put_by_slot s ys
put_behind s [] ys h = refl
put_behind s (x ∷ xs) ys h =
    put_after s x (xs ++ ys) (All-head (λ (x : Segment). x.slot ≤ s.slot) x xs h)
    ∙ ap (λ (zs : List Segment). x ∷ zs)
    (put_behind s xs ys (All-tail (λ (x : Segment). x.slot ≤ s.slot) x xs h))

-- the first i of these segments are not of later slots
abbrev pub AreBefore : ℕ → ℕ → List Segment → Type 0
AreBefore slot i segs = All (λ s. s.slot ≤ slot) (take i segs)

put_there : (segs : List Segment) (i slot : ℕ) (s : Segment) → s.slot ≡ slot
    → AreBefore slot i segs → put_by_slot s segs ≡ take i segs ++ put_by_slot s (drop i segs)
put_there segs i slot s is before =
    ap (put_by_slot s) (sym (take-append-drop i segs)) ∙ put_behind s (take i segs) (drop i segs)
    (subst (λ (n : ℕ). AreBefore n i segs) (sym is) before)

pub placed_at : (segs : List Segment) (i slot : ℕ) (v : Segment) → i < length segs
    → v ≡ get_or segs i v → slot < v.slot → AreBefore slot i segs → (s : Segment)
    → s.slot ≡ slot → insert segs i s ≡ put_by_slot s segs
placed_at segs i slot v lt h later before s is =
    grind (arith, drop_at segs i v lt, put_before s v, put_there segs i slot s is before)

pub placed_last : (segs : List Segment) (i slot : ℕ) → length segs ≤ i
    → AreBefore slot i segs → (s : Segment) → s.slot ≡ slot
    → insert segs i s ≡ put_by_slot s segs
placed_last segs i slot le before s is =
    let none : drop i segs ≡ [] = grind (arith, drop_all) in
    let here : put_by_slot s (drop i segs) ≡ s ∷ drop i segs = grind arith in
    grind (arith, put_there)

-- what holds of all holds of all with one more
pub All-put : (P : Segment → Type 0) (s : Segment) (xs : List Segment) → All P xs → P s
    → All P (put_by_slot s xs)
All-put P s [] all h = All-cons P s [] h all
All-put P s (x ∷ xs) all h = by (nat_lt s.slot x.slot) (All-put P s xs (All-tail P x xs all) h)
  where
    by : (b : Bool) → All P (put_by_slot s xs)
        → All P (if b then s ∷ x ∷ xs else x ∷ put_by_slot s xs)
    by true rest = All-cons P s (x ∷ xs) h all
    by false rest = All-cons P x (put_by_slot s xs) (All-head P x xs all) rest

-- 2. one segment more among those of slots
-- before the segments of later slots
put_front : (f : ℕ → Option Segment) → InPlace f → (s : Segment) (n a : ℕ) → s.slot < a
    → put_by_slot s (filter_map f (range_with_len a n))
    ≡ s ∷ filter_map f (range_with_len a n)
put_front f place s zero a lt = refl
put_front f place s (suc n) a lt = grind (arith, put_front f place s n (a + 1) (omega arith))

-- g gives of the slot of s the segment s, and of the others what f gives, which gives none of it
put_kept : (f g : ℕ → Option Segment) → InPlace f → (s : Segment) → f s.slot ≡ None
    → g s.slot ≡ Some s → ((i : ℕ) → i ≢ s.slot → f i ≡ g i)
    → (n a : ℕ) → a ≤ s.slot → s.slot < a + n
    → put_by_slot s (filter_map f (range_with_len a n)) ≡ filter_map g (range_with_len a n)
put_kept f g place s none some same zero a le lt = absurd (omega arith)
put_kept f g place s none some same (suc n) a le lt =
    grind (arith, put_front, same_kept, put_after, put_kept f g place s none some same n (a + 1))

-- fewer are kept than there are numbers, where f gives none of one of them
few_from : (f : ℕ → Option Segment) (n a : ℕ)
    → length (filter_map f (range_with_len a n)) ≤ n
few_from f zero a = omega arith
few_from f (suc n) a = grind (arith, few_from f n (a + 1))

fewer_kept : (f : ℕ → Option Segment) (j : ℕ) → f j ≡ None → (n a : ℕ) → a ≤ j
    → j < a + n → length (filter_map f (range_with_len a n)) < n
fewer_kept f j none zero a le lt = absurd (omega arith)
fewer_kept f j none (suc n) a le lt = grind (arith, few_from, fewer_kept f j none n (a + 1))

-- a segment that is added in the slot at i of those that are left has its place in the table
pub record IsNewIn (order : Order) (host : List ℕ) (slots : List ℕ) (i : ℕ)
    (old added : List Segment) (s : Segment) : Type 0 where
  pub room : length (segments_in_slots order host old added) < SLOT_COUNT
  pub put : put_by_slot s (segments_in_slots order host old added)
      ≡ segments_in_slots order host old (added ++ s ∷ [])
  pub below : All (λ x. x.slot < s.slot + 1) (added ++ s ∷ [])
  pub ascend : AscendFrom (s.slot + 1) (drop (i + 1) slots)

-- 3. segments that are found by their slots
in_slot : (j : ℕ) (xs : List Segment) (x : Segment) → find (is_in_slot j) xs ≡ Some x
    → x.slot ≡ j
in_slot j xs x h = grind (arith, find_passes)

-- none is found in a slot that all are before
pub none_below : (j from : ℕ) (xs : List Segment) → All (λ x. x.slot < from) xs → from ≤ j
    → find (is_in_slot j) xs ≡ None
none_below j from [] h le = refl
none_below j from (x ∷ xs) h le =
    let first = All-head (λ (x : Segment). x.slot < from) x xs h in
    let other : is_in_slot j x ≡ false = grind arith
    in
    rw other (none_below j from xs (All-tail (λ (x : Segment). x.slot < from) x xs h) le)

module _ (order : Order) (host : List ℕ) (libs : List (List ℕ)) where
  -- the own segment of a slot is in it, and an empty slot has none
  own_in_place : InPlace (read_segment order host libs)
  own_in_place i s h = by (is_none (source_fault order host libs i)) refl
    where
      by : (b : Bool) → is_none (source_fault order host libs i) ≡ b → s.slot ≡ i
      by true e = (own_parts order host libs i s (rw e at h)).0
      by false e = let wrong : None ≡ Some s = rw e at h in cc

  empty_role : (q : Result Role Reason) → option_map_or is_empty (result_ok q) false ≡ true
      → q ≡ Ok role.Empty
  empty_role other h = grind arith

  either : {X : Type 0} (b : Bool) → ◌≡◌ {A = Option X} (if b then None else None) None
  either true = refl
  either false = refl

  none_of_empty : (i : ℕ) → is_role is_empty order host i ≡ true
      → read_segment order host libs i ≡ None
  none_of_empty i h = grind (arith, empty_role)

  found_own : (i : ℕ) → i < SLOTS → find (is_in_slot i) (read_segments order host libs)
      ≡ read_segment order host libs i
  unfolding read_segments
  found_own i h = found_there (read_segment order host libs) own_in_place i SLOTS 0 (omega arith) h

  abbrev own : List Segment
  own = read_segments order host libs

  abbrev kept_in : List Segment → ℕ → Option Segment
  kept_in xs i = segment_in_slot order host own xs i

  or_none : (o : Option Segment) → option_or o None ≡ o
  or_none None = refl
  or_none (Some s) = refl

  -- without added ones they are the own ones
  pub own_by_slot : segments_in_slots order host own [] ≡ own
  unfolding segments_in_slots read_segments
  own_by_slot = same_kept (kept_in []) (read_segment order host libs) SLOTS 0
      (λ i low h. ap (option_or (find (is_in_slot i) own)) (either (is_role is_empty order host i))
      ∙ (or_none (find (is_in_slot i) own) ∙ found_own i h))

  kept_in_place : (xs : List Segment) → InPlace (kept_in xs)
  kept_in_place xs i s h = by (find (is_in_slot i) own) refl (is_role is_empty order host i) refl
    where
      by : (o : Option Segment) → find (is_in_slot i) own ≡ o → (b : Bool)
          → is_role is_empty order host i ≡ b → s.slot ≡ i
      by (Some x) e b d = in_slot i own s (e ∙ (rw e at h))
      by None e true d = in_slot i xs s (rw (e, d) at h)
      by None e false d = let wrong : None ≡ Some s = rw (e, d) at h in cc

  -- one added segment more, in an empty slot behind those of the others
  module _ (xs : List Segment) (s : Segment) (low : s.slot < SLOTS)
      (is : is_role is_empty order host s.slot ≡ true)
      (none : find (is_in_slot s.slot) xs ≡ None) where
    no_own : find (is_in_slot s.slot) own ≡ None
    no_own = found_own s.slot low ∙ none_of_empty s.slot is

    not_yet : kept_in xs s.slot ≡ None
    not_yet = rw (no_own, is) none

    then_found : kept_in (xs ++ s ∷ []) s.slot ≡ Some s
    then_found = grind (arith, no_own, find-append)

    others : (i : ℕ) → i ≢ s.slot → kept_in xs i ≡ kept_in (xs ++ s ∷ []) i
    others i differs = grind (arith, find-append, or_none)

    pub put_one : put_by_slot s (segments_in_slots order host own xs)
        ≡ segments_in_slots order host own (xs ++ s ∷ [])
    unfolding segments_in_slots
    put_one = put_kept (kept_in xs) (kept_in (xs ++ s ∷ []))
        (kept_in_place xs) s not_yet then_found others SLOTS 0 (omega arith) low

    pub is_room : length (segments_in_slots order host own xs) < SLOT_COUNT
    unfolding segments_in_slots
    is_room = fewer_kept (kept_in xs) s.slot not_yet SLOTS 0 (omega arith) low

  -- 4. the empty slots ascend
  ascend_filtered : (p : ℕ → Bool) (n a from : ℕ) → from ≤ a
      → AscendFrom from (filter p (range_with_len a n))
  ascend_filtered p zero a from le = tt
  ascend_filtered p (suc n) a from le = grind (arith, ascend_filtered p n (a + 1))

  pub empty_ascend : AscendFrom 0 (empty_slots order host)
  unfolding empty_slots
  empty_ascend = ascend_filtered (is_role is_empty order host) MAX_ADDED FIRST_ADDED 0 (omega arith)

  pub empty_are : All (λ slot. is_role is_empty order host slot ≡ true) (empty_slots order host)
  unfolding empty_slots
  empty_are = filter_passes (is_role is_empty order host) (range_with_len FIRST_ADDED MAX_ADDED)

  -- with the own segments as they were read
  module _ (old : List Segment) (are : old ≡ own) where
    pub own_table : old ≡ segments_in_slots order host old []
    own_table = grind (arith, own_by_slot)

    pub new_in : (slots : List ℕ) (i from : ℕ) (added : List Segment) (s : Segment)
        (g : UnitReference) → slots ≡ empty_slots order host → All (λ j. j < SLOTS) slots
        → i < length slots → AscendFrom from (drop i slots)
        → All (λ (x : Segment). x.slot < from) added
        → added_segment order host libs g (get_or slots i 0) ≡ Some s
        → IsNewIn order host slots i old added s
    new_in slots i from added s g all low lt ascend below brought =
        let slot = get_or slots i 0 in
        let at : slot ≡ get_or slots i slot = get_or_default slots i 0 slot lt in
        let made = added_made order host libs g slot s brought in
        let is : s.slot ≡ slot = grind arith in
        let left : AscendFrom from (slot ∷ drop (i + 1) slots) = grind (arith, drop_at) in
        let first : from ≤ slot = left.0 in
        let small : slot < SLOTS = grind arith in
        let has : is_role is_empty order host slot ≡ true = grind (arith, empty_are) in
        let next : AscendFrom (slot + 1) (drop (i + 1) slots) = left.1 in
        let in_range : s.slot < SLOTS = omega (arith, is, small) in
        let empty : is_role is_empty order host s.slot ≡ true = rw is has in
        let none : find (is_in_slot s.slot) added ≡ None = grind (arith, none_below) in
        record {
          room = grind (arith, is_room);
          put = grind (arith, put_one);
          below = All-append (λ (x : Segment). x.slot < s.slot + 1) added (s ∷ [])
              (All-weaker (λ (x : Segment). x.slot < from) (λ (x : Segment). x.slot < s.slot + 1)
              (λ x h. omega (arith, h, is, first)) added below)
              (All-cons (λ (x : Segment). x.slot < s.slot + 1) s [] (omega arith)
              (All-nil (λ (x : Segment). x.slot < s.slot + 1)));
          ascend = grind arith;
        }
