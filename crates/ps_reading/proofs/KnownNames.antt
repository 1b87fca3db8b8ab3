-- Names that are already known: requesting them again does not change the queue.
use Rattle.ps_reading.proofs.Vocabulary.{◌≡◌, ◌∙◌, ℕ, ◌+◌, ◌≤◌, ◌++◌, List, [], ◌∷◌, length, length-append, append_assoc, append-nil, take, drop, get_or, ◌<◌, Bool, true, false, inl, inr, refl, sym, subst, arith, All, take_all, or_left, or_right, All-nil, All-cons, All-head, All-tail, All-weaker, list_any-append, bytes_eq-Decides, is_unit_reference, Record, Segment, is_already_known, requested_from, unit_references, all_unit_references, IsAlreadyKnown, AreAlreadyKnown, UnitReference, MAX_REQUESTED}
use Rattle.ps_reading.proofs.RequestQueue.{few_kept, kept_segment, queue_prefix}
use Rattle.ps_reading.proofs.NextItems.{drop_at}
use Rattle.ps_reading.proofs.SharedRecords.{all_taken}

module _ (units : List (List ℕ × ℕ)) where
  -- what is known stays so
  pub known_longer : (queue more : List UnitReference) (name : List ℕ)
      → is_already_known units queue name ≡ true
      → is_already_known units (queue ++ more) name ≡ true
  known_longer queue more name h = grind (arith, or_left, or_right, list_any-append)

  pub known_last : (queue : List UnitReference) (g : UnitReference)
      → is_already_known units (queue ++ g ∷ []) g.name ≡ true
  known_last queue g = grind (arith, bytes_eq-Decides, list_any-append, or_left)

  -- a queue grows at its end
  pub grown : (queue gs : List UnitReference)
      → (more : List UnitReference) × (requested_from units queue gs ≡ queue ++ more)
  grown queue [] = ([], sym (append-nil queue))
  grown queue (g ∷ gs) = by (λ r. grown r gs) (is_already_known units queue g.name) refl
    where
      by : ((r : List UnitReference) → (more : List UnitReference)
          × (requested_from units r gs ≡ r ++ more)) → (b : Bool)
          → is_already_known units queue g.name ≡ b → (more : List UnitReference)
          × (requested_from units queue (g ∷ gs) ≡ queue ++ more)
      by rest true e = let r = rest queue in (r.0, rw e r.1)
      by rest false e = let r = rest (queue ++ g ∷ []) in grind (arith, append_assoc)

  known_behind : (queue gs : List UnitReference) (name : List ℕ)
      → is_already_known units queue name ≡ true
      → is_already_known units (requested_from units queue gs) name ≡ true
  known_behind queue gs name h = grind (arith, grown queue gs, known_longer queue)

  enqueue_known : (queue : List UnitReference) (g : UnitReference) (gs : List UnitReference)
      → is_already_known units queue g.name ≡ true
      → requested_from units queue (g ∷ gs) ≡ requested_from units queue gs
  enqueue_known queue g gs e = grind arith

  enqueue_new : (queue : List UnitReference) (g : UnitReference) (gs : List UnitReference)
      → is_already_known units queue g.name ≡ false
      → requested_from units queue (g ∷ gs) ≡ requested_from units (queue ++ g ∷ []) gs
  enqueue_new queue g gs e = grind arith

  module _ (file slot n : ℕ) (r : Record) (rs : List Record) where
    abbrev requested : UnitReference
    requested = record
        { name = r.name; at = record { segment = record { file = file; slot = slot }; rec = n } }

    abbrev behind : List UnitReference
    behind = unit_references file slot (n + 1) rs

    first_requests : is_unit_reference r.body ≡ true
        → unit_references file slot n (r ∷ rs) ≡ requested ∷ behind
    first_requests e = grind arith

    first_is_none : is_unit_reference r.body ≡ false
        → unit_references file slot n (r ∷ rs) ≡ behind
    first_is_none e = grind arith

  -- all names that records request are known after them
  all_known : (file slot n : ℕ) (rs : List Record) (queue : List UnitReference)
      → All (IsAlreadyKnown units (requested_from units queue (unit_references file slot n rs)))
      rs
  all_known file slot n [] queue = All-nil (IsAlreadyKnown units queue)
  all_known file slot n (r ∷ rs) queue =
      by (λ q. all_known file slot (n + 1) rs q) (is_unit_reference r.body) refl
    where
      gs : List UnitReference
      gs = unit_references file slot (n + 1) rs

      g : UnitReference
      g = record
          { name = r.name; at = record { segment = record { file = file; slot = slot }; rec = n } }

      Known : List UnitReference → Type 0
      Known q = All (IsAlreadyKnown units q) (r ∷ rs)

      seen : ((q : List UnitReference) → All
          (IsAlreadyKnown units (requested_from units q gs)) rs) → (b : Bool)
          → is_already_known units queue r.name ≡ b
          → Known (requested_from units queue (g ∷ gs))
      seen rest true e = subst Known (sym (enqueue_known queue g gs e))
          (All-cons (IsAlreadyKnown units (requested_from units queue gs)) r rs
          (λ _. known_behind queue gs r.name e) (rest queue))
      seen rest false e = subst Known (sym (enqueue_new queue g gs e))
          (All-cons (IsAlreadyKnown units (requested_from units (queue ++ g ∷ []) gs)) r rs
          (λ _. known_behind (queue ++ g ∷ []) gs r.name (known_last queue g))
          (rest (queue ++ g ∷ [])))

      by : ((q : List UnitReference) → All (IsAlreadyKnown units (requested_from units q gs)) rs)
          → (b : Bool) → is_unit_reference r.body ≡ b
          → Known (requested_from units queue (unit_references file slot n (r ∷ rs)))
      by rest b e = grind (arith, first_requests, seen, first_is_none, All-cons, gs)

  -- the names that a segment requests are known after it
  pub known_here : (file slot : ℕ) (rs : List Record) (queue now : List UnitReference)
      → now ≡ take MAX_REQUESTED (requested_from units queue (unit_references file slot 0 rs))
      → AreAlreadyKnown units now rs
  known_here file slot rs queue now is = grind (arith, all_known)

  more_known : (queue gs : List UnitReference) (rs : List Record)
      → All (IsAlreadyKnown units queue) rs
      → All (IsAlreadyKnown units (requested_from units queue gs)) rs
  more_known queue gs [] h = All-nil (IsAlreadyKnown units (requested_from units queue gs))
  more_known queue gs (r ∷ rs) h = grind (arith, All-cons, known_behind, All-head, All-tail)

  -- names that are known stay so after any names more
  pub still_known : (queue gs now : List UnitReference) (rs : List Record)
      → now ≡ take MAX_REQUESTED (requested_from units queue gs)
      → AreAlreadyKnown units queue rs → AreAlreadyKnown units now rs
  still_known queue gs now rs is (inl full) = grind (arith, grown queue gs, length-append queue)
  still_known queue gs now rs is (inr h) = grind (arith, more_known)

  same_queue : (file slot n : ℕ) (queue : List UnitReference) (rs : List Record)
      → All (IsAlreadyKnown units queue) rs
      → requested_from units queue (unit_references file slot n rs) ≡ queue
  same_queue file slot n queue [] h = refl
  same_queue file slot n queue (r ∷ rs) h =
      grind (
        arith,
        first_requests,
        enqueue_known,
        All-head,
        first_is_none,
        same_queue file slot (n + 1) queue rs (All-tail (IsAlreadyKnown units queue) r rs h),
      )

  -- names that are known change no queue
  pub nothing_new : (file slot : ℕ) (queue : List UnitReference) (rs : List Record)
      → length queue ≤ MAX_REQUESTED → AreAlreadyKnown units queue rs
      → queue ≡ take MAX_REQUESTED (requested_from units queue (unit_references file slot 0 rs))
  nothing_new file slot queue rs few (inl full) =
      sym (queue_prefix units MAX_REQUESTED queue (unit_references file slot 0 rs) full
      ∙ take_all MAX_REQUESTED queue few)
  nothing_new file slot queue rs few (inr h) =
      grind (arith, same_queue file slot 0 queue rs h, take_all MAX_REQUESTED queue few)

-- The queue after the first i of these segments: with what the others request it is that of all,
-- and what these request is known.
pub record HaveRequested (units : List (List ℕ × ℕ)) (own : List Segment) (i : ℕ)
    (queue : List UnitReference) : Type 0 where
  pub whole : take MAX_REQUESTED (requested_from units queue (all_unit_references (drop i own)))
      ≡ take MAX_REQUESTED (requested_from units [] (all_unit_references own))
  pub few : length queue ≤ MAX_REQUESTED
  pub known : All (λ s. AreAlreadyKnown units queue s.records) (take i own)

-- one segment more
pub requested_more : (units : List (List ℕ × ℕ)) (own : List Segment) (i : ℕ)
    (v : Segment) (queue now : List UnitReference) → i < length own → v ≡ get_or own i v
    → now ≡ take MAX_REQUESTED (requested_from units queue
    (unit_references v.file v.slot 0 v.records))
    → HaveRequested units own i queue → HaveRequested units own (i + 1) now
requested_more units own i v queue now lt there is so_far =
    let one = unit_references v.file v.slot 0 v.records in
    let rest = all_unit_references (drop (i + 1) own) in
    let all = all_unit_references (drop i own) in
    let split : all ≡ one ++ rest = grind (arith, drop_at) in
    record {
      whole = grind (arith, kept_segment);
      few = rw is (few_kept (requested_from units queue one));
      known = all_taken (λ (q : Segment). AreAlreadyKnown units now q.records) i own v lt there
          (All-weaker (λ (q : Segment). AreAlreadyKnown units queue q.records)
          (λ (q : Segment). AreAlreadyKnown units now q.records)
          (λ q h. still_known units queue one now q.records is h) (take i own) so_far.known)
          (known_here units v.file v.slot v.records queue now is);
    }
