-- The queue of names that are requested, of which only the first ten are kept, and the rounds that
-- it gives.
use Rattle.ps_reading.proofs.Vocabulary.{◌≡◌, ℕ, ◌+◌, ◌<◌, ◌≤◌, List, [], ◌∷◌, ◌++◌, ◌-◌, length, length-append, append_assoc, append-nil, take, drop, get_or, get_or_default, Bool, true, false, Option, Some, None, inl, inr, refl, sym, ◌∙◌, ap, arith, ◌⊎◌, All, if◌then◌else◌, cases_lt, take-append-le, take_all, drop_all, length-take, length-take-le, All-nil, All-cons, All-append, slice_get, filter, range_with_len, Order, is_unit_reference, units_requested, is_already_known, unit_references, all_unit_references, requested_from, unplaced_fault, placed_fault, added_from, added_segment, RoundsOutcome, after, rounds_from, AscendFrom, segments_in_slots, IsRead, Fault, Body, Record, Segment, UnitReference, MAX_REQUESTED}
use Rattle.ps_linkinfo.specs.declared.record.Body.TheVariants.{UnitRef}
use Rattle.ps_reading.proofs.NextItems.{drop_at}
use Rattle.ps_reading.proofs.RecordCounts.{one_unit}

-- with this queue, the names that the records from this index on request make the whole queue:
-- that of all records, after `old`
abbrev pub Enqueues : List (List ℕ × ℕ) → ℕ → ℕ → List Record → List UnitReference
    → List UnitReference → ℕ → List Record → Type 0
Enqueues units file slot all old queue n rs =
    take MAX_REQUESTED (requested_from units queue (unit_references file slot n rs))
    ≡ take MAX_REQUESTED (requested_from units old (unit_references file slot 0 all))

-- what requests a unit is counted
requests_is : (b : Body) → is_unit_reference b ≡ is_unit_reference b
requests_is (UnitRef refs) = refl
requests_is other = refl

-- where none requests a unit, there is no reference to one
pub no_references : (file slot n : ℕ) (rs : List Record) → units_requested rs ≡ 0
    → unit_references file slot n rs ≡ []
no_references file slot n [] h = refl
no_references file slot n (r ∷ rs) h =
    grind (arith, requests_is r.body, one_unit r rs true, no_references file slot (n + 1) rs)

-- names that are requested after others
pub requested-append : (units : List (List ℕ × ℕ)) (queue xs ys : List UnitReference)
    → requested_from units queue (xs ++ ys)
    ≡ requested_from units (requested_from units queue xs) ys
requested-append units queue [] ys = refl
requested-append units queue (x ∷ xs) ys =
    requested-append units (if is_already_known units queue x.name then queue
    else queue ++ x ∷ []) xs ys

-- one segment more, whose records request names after those of segments before it
flat_more : (xs : List Segment) (s : Segment) → all_unit_references (xs ++ s ∷ [])
    ≡ all_unit_references xs ++ unit_references s.file s.slot 0 s.records
flat_more [] s = append-nil (unit_references s.file s.slot 0 s.records)
flat_more (x ∷ xs) s = grind (arith, append_assoc, flat_more xs s)

pub references_more : (units : List (List ℕ × ℕ)) (queue : List UnitReference)
    (xs : List Segment) (s : Segment)
    → requested_from units (requested_from units queue (all_unit_references xs))
    (unit_references s.file s.slot 0 s.records)
    ≡ requested_from units queue (all_unit_references (xs ++ s ∷ []))
references_more units queue xs s = grind (arith, flat_more, requested-append)

-- all that two lists of segments request
pub references_both : (xs ys : List Segment)
    → all_unit_references (xs ++ ys) ≡ all_unit_references xs ++ all_unit_references ys
references_both [] ys = refl
references_both (x ∷ xs) ys = grind (arith, append_assoc, references_both xs ys)

-- the prefix of a queue stays
pub queue_prefix : (units : List (List ℕ × ℕ)) (n : ℕ) (queue gs : List UnitReference)
    → n ≤ length queue → take n (requested_from units queue gs) ≡ take n queue
queue_prefix units n queue [] h = refl
queue_prefix units n queue (g ∷ gs) h =
    by (λ r l. queue_prefix units n r gs l) (is_already_known units queue g.name) refl
  where
    by : ((r : List UnitReference) → n ≤ length r
        → take n (requested_from units r gs) ≡ take n r) → (b : Bool)
        → is_already_known units queue g.name ≡ b
        → take n (requested_from units queue (g ∷ gs)) ≡ take n queue
    by rest b e = grind (arith, length-append, take-append-le)

-- what is kept of a queue decides what is kept of the queue after it
pub kept : (units : List (List ℕ × ℕ)) (queue gs : List UnitReference)
    → take MAX_REQUESTED (requested_from units (take MAX_REQUESTED queue) gs)
    ≡ take MAX_REQUESTED (requested_from units queue gs)
kept units queue gs = by (cases_lt (length queue) MAX_REQUESTED)
  where
    by : (length queue < MAX_REQUESTED) ⊎ (MAX_REQUESTED ≤ length queue)
        → take MAX_REQUESTED (requested_from units (take MAX_REQUESTED queue) gs)
        ≡ take MAX_REQUESTED (requested_from units queue gs)
    by (inl h) = ap (λ (r : List UnitReference). take MAX_REQUESTED (requested_from units r gs))
        (take_all MAX_REQUESTED queue (omega arith))
    by (inr h) =
        let long : length (take MAX_REQUESTED queue) ≡ MAX_REQUESTED =
        length-take-le MAX_REQUESTED queue h in
        queue_prefix units MAX_REQUESTED (take MAX_REQUESTED queue) gs (omega (arith, long))
        ∙ (take_all MAX_REQUESTED (take MAX_REQUESTED queue) (omega (arith, long))
        ∙ sym (queue_prefix units MAX_REQUESTED queue gs h))

-- one name more, which is known, or for which there is no place, or which is kept
pub kept_known : (units : List (List ℕ × ℕ)) (queue : List UnitReference) (g : UnitReference)
    → length queue ≤ MAX_REQUESTED → is_already_known units queue g.name ≡ true
    → queue ≡ take MAX_REQUESTED (requested_from units queue (g ∷ []))
kept_known units queue g h e = rw e (sym (take_all MAX_REQUESTED queue h))

pub kept_full : (units : List (List ℕ × ℕ)) (queue : List UnitReference) (g : UnitReference)
    → length queue ≡ MAX_REQUESTED → is_already_known units queue g.name ≡ false
    → queue ≡ take MAX_REQUESTED (requested_from units queue (g ∷ []))
kept_full units queue g h e =
    rw e (sym (take-append-le MAX_REQUESTED queue (g ∷ []) (omega arith)
    ∙ take_all MAX_REQUESTED queue (omega arith)))

-- one record more
pub references-cons : (file slot rec : ℕ) (r : Record) (rs : List Record)
    → unit_references file slot rec (r ∷ rs)
    ≡ unit_references file slot rec (r ∷ []) ++ unit_references file slot (rec + 1) rs
references-cons file slot rec r rs = grind arith

-- the names that a record requests, and then those of the records after it
pub kept_more : (units : List (List ℕ × ℕ)) (queue now : List UnitReference)
    (file slot rec : ℕ) (r : Record) (rs : List Record)
    → now ≡ take MAX_REQUESTED (requested_from units queue
    (unit_references file slot rec (r ∷ [])))
    → take MAX_REQUESTED (requested_from units now (unit_references file slot (rec + 1) rs))
    ≡ take MAX_REQUESTED (requested_from units queue (unit_references file slot rec (r ∷ rs)))
kept_more units queue now file slot rec r rs is =
    grind (arith, kept, references-cons, requested-append)

-- the names that a segment requests, and then those of the segments after it
pub kept_segment : (units : List (List ℕ × ℕ)) (queue now one rest all : List UnitReference)
    → all ≡ one ++ rest → now ≡ take MAX_REQUESTED (requested_from units queue one)
    → take MAX_REQUESTED (requested_from units now rest)
    ≡ take MAX_REQUESTED (requested_from units queue all)
kept_segment units queue now one rest all split is = grind (arith, kept, requested-append)

-- the rounds, one by one
module _ (order : Order) (host : List ℕ) (libs : List (List ℕ)) (units : List (List ℕ × ℕ))
    (k : ℕ) (queue : List UnitReference) where
  pub no_name_left : (left : List ℕ) → slice_get queue k ≡ None
      → rounds_from order host libs units left k queue ≡ record { added = []; fault = None }
  no_name_left [] h = rw h refl
  no_name_left (slot ∷ left) h = rw (h, rounds_from) refl

  pub no_slot_left : (g : UnitReference) → slice_get queue k ≡ Some g
      → rounds_from order host libs units [] k queue
      ≡ record { added = []; fault = Some (unplaced_fault order libs g) }
  no_slot_left g h = rw h refl

  pub round_refused : (slot : ℕ) (left : List ℕ) (g : UnitReference) (f : Fault)
      → slice_get queue k ≡ Some g → placed_fault order host libs g slot ≡ Some f
      → rounds_from order host libs units (slot ∷ left) k queue
      ≡ record { added = []; fault = Some f }
  round_refused slot left g f h e = grind arith

  pub round_adds : (slot : ℕ) (left : List ℕ) (g : UnitReference) (s : Segment)
      → slice_get queue k ≡ Some g → placed_fault order host libs g slot ≡ None
      → added_segment order host libs g slot ≡ Some s
      → rounds_from order host libs units (slot ∷ left) k queue
      ≡ after s (rounds_from order host libs units left (k + 1)
      (requested_from units queue (unit_references s.file s.slot 0 s.records)))
  round_adds slot left g s h e f = grind arith

  -- the segment that a round adds, whatever its fault
  pub no_name_brings : (left : List ℕ) → slice_get queue k ≡ None
      → added_from order host libs units left k queue ≡ []
  no_name_brings [] h = refl
  no_name_brings (slot ∷ left) h = rw (h, added_from) refl

  pub name_brings : (slot : ℕ) (left : List ℕ) (g : UnitReference) (s : Segment)
      → slice_get queue k ≡ Some g → added_segment order host libs g slot ≡ Some s
      → added_from order host libs units (slot ∷ left) k queue
      ≡ s ∷ added_from order host libs units left (k + 1)
      (requested_from units queue (unit_references s.file s.slot 0 s.records))
  name_brings slot left g s h e = grind arith

  pub none_brought : (slot : ℕ) (left : List ℕ) (g : UnitReference)
      → slice_get queue k ≡ Some g → added_segment order host libs g slot ≡ None
      → added_from order host libs units (slot ∷ left) k queue ≡ []
  none_brought slot left g h e = grind arith

-- segments that were added before the rounds that are left
abbrev pub joined : List Segment → RoundsOutcome → RoundsOutcome
joined xs r = record { added = xs ++ r.added; fault = r.fault }

pub joined_more : (xs : List Segment) (s : Segment) (r : RoundsOutcome)
    → joined xs (after s r) ≡ joined (xs ++ s ∷ []) r
joined_more xs s r = grind (arith, append_assoc)

-- In the rounds before one, segments were added in slots below those that are left. They are in the
-- table. They and the rounds that are left are all rounds, by the queue with the names that they
-- request, of which the first ten are kept.
pub record AreAdded (order : Order) (host : List ℕ) (libs : List (List ℕ))
    (units : List (List ℕ × ℕ)) (slots : List ℕ) (first queue : List UnitReference)
    (old table : List Segment) (round : ℕ) : Type 0 where
  pub added : List Segment
  pub from : ℕ
  pub below : All (λ (s : Segment). s.slot < from) added
  pub ascend : AscendFrom from (drop round slots)
  pub table_is : table ≡ segments_in_slots order host old added
  pub count : length table ≡ length old + length added
  pub rounds : (whole : List UnitReference) → first ≡ take MAX_REQUESTED whole
      → (all : List UnitReference)
      × (all ≡ requested_from units whole (all_unit_references added))
      × (queue ≡ take MAX_REQUESTED all)
      × (rounds_from order host libs units slots 0 whole
      ≡ joined added (rounds_from order host libs units (drop round slots) round all))

-- the slots that are left have that of this round first
pub next_slot : (slots : List ℕ) (i : ℕ) → i < length slots
    → drop i slots ≡ get_or slots i 0 ∷ drop (i + 1) slots
next_slot slots i lt = drop_at slots i (get_or slots i 0) lt (get_or_default slots i 0 _ lt)

-- the k-th name, as the queue that is kept has it
pub at_round : (queue items : List UnitReference) (i n : ℕ) (o : Option UnitReference)
    → items ≡ take MAX_REQUESTED queue → i < MAX_REQUESTED → n ≡ i
    → o ≡ slice_get items n → slice_get queue i ≡ o
at_round queue items i n o is lt same h = grind arith

-- by this queue no segment is added in the rounds that are left
abbrev pub End : Order → List ℕ → List (List ℕ) → List (List ℕ × ℕ) → List ℕ
    → List UnitReference → ℕ → Option Fault → Type 0
End order host libs units slots queue round fault =
    (all : List UnitReference) → queue ≡ take MAX_REQUESTED all
    → rounds_from order host libs units (drop round slots) round all
    ≡ record { added = []; fault = fault }

-- no name is left, or no slot, or the unit of the next name is refused
module _ {order : Order} {host : List ℕ} {libs : List (List ℕ)} {units : List (List ℕ × ℕ)}
    {slots : List ℕ} {first queue : List UnitReference} {old table : List Segment} {round : ℕ}
    (so_far : AreAdded order host libs units slots first queue old table round) (n : ℕ)
    (few : round < MAX_REQUESTED) (same : n ≡ round) where
  pub end_of_names : None ≡ slice_get queue n → End order host libs units slots queue round None
  end_of_names h all is = no_name_left order host libs units round all (drop round slots)
      (at_round all queue round n None is few same h)

  pub end_of_slots : (g : UnitReference) → Some g ≡ slice_get queue n → length slots ≤ round
      → End order host libs units slots queue round (Some (unplaced_fault order libs g))
  end_of_slots g h over all is =
      ap (λ (l : List ℕ). rounds_from order host libs units l round all)
      (drop_all round slots over) ∙ no_slot_left order host libs units round all g
      (at_round all queue round n (Some g) is few same h)

  pub end_by_fault : (g : UnitReference) (f : Fault) → Some g ≡ slice_get queue n
      → round < length slots → placed_fault order host libs g (get_or slots round 0) ≡ Some f
      → End order host libs units slots queue round (Some f)
  end_by_fault g f h lt e all is =
      ap (λ (l : List ℕ). rounds_from order host libs units l round all)
      (next_slot slots round lt) ∙ round_refused order host libs units round all
      (get_or slots round 0) (drop (round + 1) slots) g f
      (at_round all queue round n (Some g) is few same h) e

-- where no segment is added in the rounds that are left, those before are all
module _ {order : Order} {host : List ℕ} {libs : List (List ℕ)} {units : List (List ℕ × ℕ)}
    {slots : List ℕ} {first queue : List UnitReference} {old table : List Segment} {round : ℕ}
    (so_far : AreAdded order host libs units slots first queue old table round)
    (fault : Option Fault) (read : All (IsRead order host libs) table)
    (end : End order host libs units slots queue round fault) where
  abbrev all : List UnitReference → RoundsOutcome
  all whole = rounds_from order host libs units slots 0 whole

  is : (whole : List UnitReference) (kept : first ≡ take MAX_REQUESTED whole)
      → all whole ≡ joined so_far.added (record { added = []; fault = fault })
  is whole kept =
      let r = so_far.rounds whole kept in
      r.3 ∙ ap (joined so_far.added) (end r.0 r.2)

  added_is : (whole : List UnitReference) (kept : first ≡ take MAX_REQUESTED whole)
      → so_far.added ≡ (all whole).added
  added_is whole kept = sym (ap (λ (r : RoundsOutcome). r.added) (is whole kept)
      ∙ append-nil so_far.added)

  pub rounds_end : record {
    fault : (whole : List UnitReference) → first ≡ take MAX_REQUESTED whole
        → fault ≡ (all whole).fault;
    added : (whole : List UnitReference) → first ≡ take MAX_REQUESTED whole
        → table ≡ segments_in_slots order host old (all whole).added;
    count : (whole : List UnitReference) → first ≡ take MAX_REQUESTED whole
        → length table ≡ length old + length (all whole).added;
    more : length old ≤ length table;
    requested : (whole : List UnitReference) → first ≡ take MAX_REQUESTED whole → queue
        ≡ take MAX_REQUESTED (requested_from units whole (all_unit_references (all whole).added));
    read : All (IsRead order host libs) table;
  }
  rounds_end = record {
    fault = λ whole kept. sym (ap (λ (r : RoundsOutcome). r.fault) (is whole kept));
    added = λ whole kept. so_far.table_is
        ∙ ap (segments_in_slots order host old) (added_is whole kept);
    count = λ whole kept. so_far.count
        ∙ ap (λ (ys : List Segment). length old + length ys) (added_is whole kept);
    more = omega (arith, so_far.count);
    requested = λ whole kept.
        let r = so_far.rounds whole kept in
        r.2 ∙ ap (take MAX_REQUESTED) (r.1 ∙ ap (λ (ys : List Segment).
        requested_from units whole (all_unit_references ys)) (added_is whole kept));
    read = read;
  }

-- what is kept of a queue has ten names at most
pub few_kept : (queue : List UnitReference) → length (take MAX_REQUESTED queue) ≤ MAX_REQUESTED
few_kept queue = omega (arith, length-take MAX_REQUESTED queue)

-- one number more, where it passes
pub filter_more : (test : ℕ → Bool) (xs : List ℕ) (i n : ℕ) → i < n
    → xs ++ filter test (range_with_len i (n - i)) ≡ (xs ++ (if test i then i ∷ [] else []))
    ++ filter test (range_with_len (i + 1) (n - (i + 1)))
filter_more test xs i n lt = grind (arith, append_assoc, append-nil)

pub all_if : (P : ℕ → Type 0) (b : Bool) (xs : List ℕ) (i : ℕ) → All P xs → P i
    → All P (xs ++ (if b then i ∷ [] else []))
all_if P true xs i all h = All-append P xs (i ∷ []) all (All-cons P i [] h (All-nil P))
all_if P false xs i all h = All-append P xs [] all (All-nil P)

pub few_if : (b : Bool) (xs : List ℕ) (i n m : ℕ) → length xs + m ≤ i → n ≡ i + 1
    → length (xs ++ (if b then i ∷ [] else [])) + m ≤ n
few_if b xs i n m h e = grind (arith, length-append)
