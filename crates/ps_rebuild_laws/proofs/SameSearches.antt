-- Links of two hosts and their libraries in which each search finds what is read the same, where
-- the number of each file may be another, and the block in which link information begins.
use Rattle.ps_rebuild_laws.proofs.Vocabulary.{Bool, Both, Err, FIRST_ADDED, Fault, IsTurn, Known, List, MAX_ADDED, None, Ok, Option, Order, Reason, Record, Request, Result, Role, RoundsOutcome, SLOTS, Segment, Some, UnitReference, [], added_at, added_fault, added_segment, added_segments, after, all_mapped, all_rounds, all_unit_references, any_mapped, ap, append-nil, append_assoc, arith, at_left, both, bytes_eq, chosen_file, chosen_library, clipped, code_fault, code_of, data_fault, definitions_fault, drop, drop_at, empty_slots, entries_reason, entry_at, false, file_at, filter, find, find_mapped, first_mapped, first_private_fault, host_records, if◌then◌else◌, in_record, in_slot, in_slots, information_block, information_of, is_empty, is_host, is_in_place, is_named, is_role, known_moved, known_of, length, length-append, library_file, linking_fault, map, map-append, name_at, needs_linking, neither, next_of, none_alike, none_at, option_and_then, option_map, option_map_or, option_or, or_moved, own_segment, own_units, owner_of, placed_fault, private_words, privates_fault, queue_of, range_with_len, reading, reading_rest, references_fault, references_fault_from, refl, request_by_slot, request_fault, request_of, requested_from, requested_units, result_ok, role_fault, role_of, round_fault, rounds, rounds_added, rounds_from, same_clipped, segment_at, segments, segments_before, slice_get, slice_get-map, slots, source_fault, source_of, sources_fault, sym, tables_fault, take, true, unit_references, unit_source, units_of, ℕ, ◌++◌, ◌+◌, ◌<◌, ◌==◌, ◌∙◌, ◌∷◌, ◌≡◌}
use Rattle.ps_codefile.specs.declared.entry.Role.TheVariants as role
use Rattle.ps_reading.specs.declared.locations.RecordAt.{RecordAt}
use Rattle.ps_words.specs.declared.fault.Reason.TheVariants as reason
use Rattle.ps_reading.proofs.KnownNames.{grown}
use Rattle.ps_reading.proofs.RequestQueue.{no_name_left, no_slot_left, round_adds, round_refused}
use Rattle.ps_resolve.proofs.EachRound.{requested_rest}
use Rattle.ps_resolve.specs.Requests.{missing_at}
use Rattle.ps_resolve.specs.Sources.{own_segments, segment_from, segment_with}
use Rattle.ps_reading.specs.declared.reading.request.Requester.{Requester}
use Rattle.ps_reading.specs.declared.reading.request.Requester.TheVariants.{Slot}

-- two links, for each file of the first its number in the second, and the block in which the link
-- information of a segment begins there
pub record Change : Type 0 where
  pub order : Order
  pub host : List ℕ
  pub libs : List (List ℕ)
  pub other : List ℕ
  pub others : List (List ℕ)
  pub number : ℕ → ℕ
  pub same_host : number 0 ≡ 0
  pub block : Role → ℕ → ℕ → ℕ → ℕ

-- the segment that a request brings, before it is marked
abbrev brought_in : Order → List ℕ → List (List ℕ) → Request → Option Segment
brought_in order host libs q = option_and_then (segment_from order host libs q.slot q.name
    role.Wanted) (unit_source order q.name libs)

-- the segment of a slot of this role
abbrev own_by : Order → List ℕ → List (List ℕ) → ℕ → Role → Option Segment
own_by order host libs slot r = option_and_then (segment_from order host libs slot
    (entry_at order host slot).name r) (source_of order host libs slot r)

module _ (c : Change) where
  -- a function of the first link, and of the second
  abbrev mine : {A : Type 0} → (Order → List ℕ → List (List ℕ) → A) → A
  mine f = f c.order c.host c.libs

  abbrev theirs : {A : Type 0} → (Order → List ℕ → List (List ℕ) → A) → A
  theirs f = f c.order c.other c.others

  abbrev refile : Fault → Fault
  refile f = record f { file = c.number f.file }

  abbrev pub refiled : Option Fault → Option Fault
  refiled o = option_map refile o

  abbrev pub renewed : Segment → Segment
  renewed s = record s { file = c.number s.file; block = c.block s.role s.file s.index s.block }

  -- 1. the faults that are looked for once all segments were read
  linking_from : (known : Known) (free : ℕ) (segs : List Segment)
      → (first_private_fault free (map owner_of (map renewed segs))
      ≡ refiled (first_private_fault free (map owner_of segs)))
      × (references_fault_from c.order known free (map renewed segs)
      ≡ refiled (references_fault_from c.order known free segs))
  linking_from known free [] = (refl, refl)
  linking_from known free (s ∷ segs) =
      let later = linking_from known (free + private_words s.records) segs in
      (grind (arith, later.0), grind (arith, later.1))

  pub linking_moved : (segs : List Segment)
      → linking_fault c.order (map renewed segs) ≡ refiled (linking_fault c.order segs)
  unfolding linking_fault definitions_fault privates_fault data_fault references_fault
  linking_moved segs =
      let known = known_moved renewed segs in
      let later = linking_from (known_of segs) (next_of (host_records segs)) segs in
      rw (
        known.0,
        known.1,
        known.2,
        find_mapped (λ (s : Segment). is_host s.role) renewed segs,
        later.0,
        later.1,
      )
      (grind (arith, c.same_host))

  -- 2. the queue of the names that are requested
  abbrev moved_at : RecordAt → RecordAt
  moved_at p =
      record { segment = record p.segment { file = c.number p.segment.file }; rec = p.rec }

  abbrev given_from : UnitReference → UnitReference
  given_from g = record g { at = moved_at g.at }

  given_by : (file slot rec : ℕ) (rs : List Record)
      → unit_references (c.number file) slot rec rs
      ≡ map given_from (unit_references file slot rec rs)
  given_by file slot rec [] = refl
  given_by file slot rec (r ∷ rs) = grind (arith, given_by file slot (rec + 1) rs)

  all_given : (segs : List Segment)
      → all_unit_references (map renewed segs) ≡ map given_from (all_unit_references segs)
  all_given [] = refl
  all_given (s ∷ segs) = rw (given_by s.file s.slot 0 s.records, all_given segs) (sym (map-append
      given_from (unit_references s.file s.slot 0 s.records) (all_unit_references segs)))

  requested_given : (units : List (List ℕ × ℕ)) (gs queue : List UnitReference)
      → requested_from units (map given_from queue) (map given_from gs)
      ≡ map given_from (requested_from units queue gs)
  requested_given units [] queue = refl
  requested_given units (g ∷ gs) queue =
      let later = requested_given units gs in
      let known = any_mapped (λ (q : UnitReference). bytes_eq q.name g.name) given_from queue in
      grind (arith, later, map-append given_from queue (g ∷ []))

  -- 3. the code and the records of an entry that a segment is made from
  pub record IsSource (mine theirs : List ℕ) (r : Role) (k i : ℕ) : Type 0 where
    pub code : code_of mine (entry_at c.order mine i) ≡ code_of theirs (entry_at c.order theirs i)
    pub records : needs_linking r ≡ true
        → reading c.order (information_of mine (entry_at c.order mine i))
        ≡ reading c.order (information_of theirs (entry_at c.order theirs i))
    pub behind : information_block (entry_at c.order theirs i) (needs_linking r)
        ≡ c.block r k i (information_block (entry_at c.order mine i) (needs_linking r))

  -- the fault is the same, and where there is none, so is the segment
  abbrev Moves : Option Fault → Option Fault → Option Segment → Option Segment → Type 0
  Moves f p o u = (p ≡ refiled f) × (f ≡ None → u ≡ option_map renewed o)

  -- the first fault of an entry, by what is read of it
  abbrev fault_by : ℕ → ℕ → Role → Result (List ℕ) Reason → (List ℕ
      → Option Reason)
      → List Record × Option Reason → Option Fault
  fault_by k slot r code tables read = elim code [
    | Err why ↦ Some (in_slot k slot why)
    | Ok code ↦ if needs_linking r
        then option_or (option_map (in_slot k slot) (tables code))
        (option_map (in_record k slot (length read.0)) read.1) else None
  ]

  abbrev segment_by : ℕ → ℕ → ℕ → List ℕ → Role → Result (List ℕ) Reason → ℕ
      → List Record × Option Reason → Option Segment
  segment_by k i slot name r code block read = option_map {U = Segment} (λ code. record
      (mine segment_with slot name r (k, i) code)
      { block = block; records = if needs_linking r then read.0 else [] }) (result_ok code)

  made_by : (slot : ℕ) (name : List ℕ) (r : Role) (k j i : ℕ) (p q : Result (List ℕ) Reason)
      (x y : List Record × Option Reason) (a b : ℕ) (tables : List ℕ → Option Reason)
      → j ≡ c.number k → p ≡ q → (needs_linking r ≡ true → x ≡ y)
      → b ≡ c.block r k i a
      → Moves (fault_by k slot r p tables x) (fault_by j slot r q tables y)
      (segment_by k i slot name r p a x) (segment_by j i slot name r q b y)
  made_by slot name r k j i p q x y a b tables same code read behind =
      (grind arith, λ n. grind arith)

  made : (slot : ℕ) (name : List ℕ) (r : Role) (k j i : ℕ) → j ≡ c.number k
      → IsSource (file_at c.host c.libs k) (file_at c.other c.others j) r k i
      → Moves (mine code_fault slot r (k, i)) (theirs code_fault slot r (j, i))
      (mine segment_from slot name r (k, i)) (theirs segment_from slot name r (j, i))
  made slot name r k j i same is = made_by slot name r k j i _ _ _ _ _ _
      (λ code. tables_fault c.order code (is_host r)) same is.code is.records is.behind

  -- 4. requests: the library that is chosen for a name, both times, and what is read there
  pub record AreChosenAlike (name : List ℕ) (a b : ℕ × List ℕ) : Type 0 where
    pub file : library_file b.0 ≡ c.number (library_file a.0)
    pub index : find (is_named c.order name b.1) slots ≡ find (is_named c.order name a.1) slots
    pub reasons : entries_reason c.order name b.1 ≡ entries_reason c.order name a.1
    pub source : (i : ℕ) → find (is_named c.order name a.1) slots ≡ Some i
        → entries_reason c.order name a.1 ≡ None
        → IsSource a.1 b.1 role.Wanted (library_file a.0) i

  abbrev pub IsFound : List ℕ → Type 0
  IsFound name = Both (AreChosenAlike name) (chosen_library c.order name c.libs)
      (chosen_library c.order name c.others)

  -- a request, by the library and the reason and the entry there
  parts_moved : (m p : Fault) (slot k j : ℕ) (missing : Bool) (why : Option Reason)
      (at : Option ℕ) (f g : ℕ × ℕ → Option Fault) (s t : ℕ × ℕ → Option Segment)
      → Some p ≡ refiled (Some m) → j ≡ c.number k
      → ((i : ℕ) → at ≡ Some i → why ≡ None
      → Moves (f (k, i)) (g (j, i)) (s (k, i)) (t (j, i)))
      → Moves (if missing then Some m else option_or (option_map (in_slot k slot) why)
      (option_and_then f (option_map (λ i. (k, i)) at)))
      (if missing then Some p else option_or (option_map (in_slot j slot) why)
      (option_and_then g (option_map (λ i. (j, i)) at)))
      (option_and_then s (option_map (λ i. (k, i)) at))
      (option_and_then t (option_map (λ i. (j, i)) at))
  parts_moved m p slot k j missing why at f g s t e same h =
      (grind (arith, h), λ n. grind (arith, h))

  -- the fault and the segment of a request move, who requests it here and there
  abbrev IsMoved : Request → Requester → Type 0
  IsMoved q by = Moves (mine request_fault q) (theirs request_fault (record q { requester = by }))
      (mine brought_in q) (theirs brought_in q)

  request_moved : (q : Request) (by : Requester)
      → Some (missing_at q.slot by) ≡ refiled (Some (missing_at q.slot q.requester))
      → IsFound q.name → IsMoved q by
  request_moved q by missing t = go (chosen_library c.order q.name c.libs)
      (chosen_library c.order q.name c.others) refl refl t
    where
      go : (o p : Option (ℕ × List ℕ)) → chosen_library c.order q.name c.libs ≡ o
          → chosen_library c.order q.name c.others ≡ p → Both (AreChosenAlike q.name) o p
          → IsMoved q by
      go o p e f neither = rw (e, f) (grind (arith, missing), λ n. refl)
      go o p e f (both a b t) =
          let was = chosen_file c.order q.name c.libs a.0 a.1 c.host e in
          let now = chosen_file c.order q.name c.others b.0 b.1 c.other f in
          rw (e, f, t.reasons, t.index) (parts_moved _ _ _ _ _ _ _ _ _ _ _ _ missing t.file
          (λ i at fine. made q.slot q.name role.Wanted (library_file a.0) (library_file b.0) i
          t.file (rw (was, now) (t.source i at fine))))

  -- a name that takes a slot
  placed : (g : UnitReference) (slot : ℕ) → IsFound g.name
      → Moves (mine placed_fault g slot) (theirs placed_fault (given_from g) slot)
      (mine added_segment g slot) (theirs added_segment (given_from g) slot)
  placed g slot t =
      let m = request_moved (request_of g slot) (request_of (given_from g) slot).requester refl t in
      (m.0, λ n. let e = m.1 n in grind arith)

  -- 5. the rounds
  abbrev moved_rounds : RoundsOutcome → RoundsOutcome
  moved_rounds r = record { added = map renewed r.added; fault = refiled r.fault }

  abbrev units : List (List ℕ × ℕ)
  units = mine own_units

  abbrev asked : List Segment → List UnitReference
  asked segs = requested_units c.order c.host c.libs segs

  -- each name that is requested is found
  abbrev pub Fits : Type 0
  Fits = (k : ℕ) (g : UnitReference) → slice_get (mine queue_of) k ≡ Some g → IsFound g.name

  abbrev ended : Option Fault → RoundsOutcome
  ended f = record { added = []; fault = f }

  -- the rounds from one on, with the slots that are left
  abbrev Follows : ℕ → RoundsOutcome → Type 0
  Follows k r = theirs rounds_from units (drop k (empty_slots c.order c.host)) k
      (map given_from (asked (take k (mine added_segments)))) ≡ moved_rounds r

  module _ (fits : Fits) where
    -- the name of a round is one of the queue
    of_round : (prefix rest : List Segment) (k : ℕ) (g : UnitReference) (slot : Option ℕ)
        → IsTurn c.order c.host c.libs prefix rest k g slot → IsFound g.name
    of_round prefix rest k g slot turn =
        let more = grown units (asked prefix) (all_unit_references rest) in
        let all = requested_rest c.order c.host c.libs prefix rest in
        fits k g (grind (arith, turn.all, turn.name, more.1, at_left))

    follows : Follows 0 (mine rounds)
    follows = all_rounds c.order c.host c.libs Follows
        (λ prefix k all many none. rw (segments_before c.order c.host c.libs prefix [] k
        (all ∙ sym (append-nil prefix)) many) (no_name_left c.order c.other c.others units k _ _
        (slice_get-map given_from (asked prefix) k ∙ ap (option_map given_from) none)))
        stops goes
      where
        stops : (prefix others : List Segment) (k : ℕ) (g : UnitReference) (slot : Option ℕ)
            (f : Fault) → IsTurn c.order c.host c.libs prefix others k g slot
            → round_fault c.order c.host c.libs g slot ≡ Some f
            → Follows k (record { added = []; fault = Some f })
        stops prefix others k g None f turn e =
            let missing = none_alike _ _ (of_round prefix others k g None turn) in
            grind (arith, turn, segments_before, drop_at, slice_get-map, no_slot_left)
        stops prefix others k g (Some slot) f turn e =
            let fault = (placed g slot (of_round prefix others k g (Some slot) turn)).0 in
            grind (arith, turn, segments_before, drop_at, slice_get-map, round_refused)

        goes : (prefix others : List Segment) (k : ℕ) (g : UnitReference) (slot : ℕ)
            (s : Segment) (rest : RoundsOutcome)
            → IsTurn c.order c.host c.libs prefix (s ∷ others) k g (Some slot)
            → mine placed_fault g slot ≡ None → mine added_segment g slot ≡ Some s
            → Follows (k + 1) rest → Follows k (after s rest)
        goes prefix others k g slot s rest turn none there later =
            let m = placed g slot (of_round prefix (s ∷ others) k g (Some slot) turn) in
            let next = segments_before c.order c.host c.libs (prefix ++ s ∷ []) others (k + 1)
            (turn.all ∙ sym (append_assoc prefix (s ∷ []) others))
            (grind (arith, turn.many, length-append)) in
            let queue = requested_rest c.order c.host c.libs prefix (s ∷ []) in
            let given = given_by s.file s.slot 0 s.records in
            let name = slice_get-map given_from (asked prefix) k in
            grind (arith, turn, segments_before, drop_at, requested_given, round_adds, append-nil)

  -- 6. the hosts' slots are read the same, and what is requested is found
  pub record AreMoved : Type 0 where
    pub roles : (slot : ℕ) → slot < SLOTS
        → role_of (entry_at c.order c.host slot) ≡ role_of (entry_at c.order c.other slot)
    pub names : (slot : ℕ) → slot < SLOTS → name_at c.host slot ≡ name_at c.other slot
    pub own : (slot : ℕ) → slot < SLOTS → (r : Role)
        → role_of (entry_at c.order c.host slot) ≡ Ok r
        → is_in_place r ≡ true → IsSource c.host c.other r 0 slot
    pub found : (slot : ℕ) → slot < SLOTS
        → role_of (entry_at c.order c.host slot) ≡ Ok role.Wanted
        → IsFound (name_at c.host slot)
    pub fits : Fits

  module _ (all : AreMoved) where
    slot_moved : (slot : ℕ) → slot < SLOTS → Moves (mine source_fault slot)
        (theirs source_fault slot) (mine own_segment slot) (theirs own_segment slot)
    slot_moved slot inside = rw (← all.roles slot inside)
        (by_role (role_of (entry_at c.order c.host slot)) refl)
      where
        by_role : (o : Result Role Reason) → role_of (entry_at c.order c.host slot) ≡ o
            → Moves (option_and_then (mine role_fault slot) (result_ok o))
            (option_and_then (theirs role_fault slot) (result_ok o))
            (option_and_then (mine own_by slot) (result_ok o))
            (option_and_then (theirs own_by slot) (result_ok o))
        by_role (Err why) e = (refl, λ n. refl)
        by_role (Ok role.Empty) e = (refl, λ n. refl)
        by_role (Ok role.Wanted) e = rw (← all.names slot inside)
            (request_moved (request_by_slot c.order c.host slot) Slot
            (λ i. Some (in_slot (sym c.same_host i) slot reason.MissingUnit))
            (all.found slot inside e))
        by_role (Ok r) e = rw (← all.names slot inside)
            (made slot (name_at c.host slot) r 0 0 slot
            (sym c.same_host) (all.own slot inside r e refl))

    pub sources_moved : theirs sources_fault ≡ refiled (mine sources_fault)
    unfolding sources_fault
    sources_moved = first_mapped refile (mine source_fault) (theirs source_fault) slots
        (λ slot t. (slot_moved slot (in_slots slot t)).0)

    pub same_roles : clipped (Ok role.Empty) (λ slot. role_of (entry_at c.order c.other slot))
        ≡ clipped (Ok role.Empty) (λ slot. role_of (entry_at c.order c.host slot))
    same_roles = same_clipped (Ok role.Empty) _ _ (λ slot inside. sym (all.roles slot inside))

    same_empty : empty_slots c.order c.other ≡ empty_slots c.order c.host
    unfolding empty_slots
    same_empty = λ j. filter (λ slot. option_map_or is_empty (result_ok (same_roles j slot))
        false) (range_with_len FIRST_ADDED MAX_ADDED)

    module _ (none : mine sources_fault ≡ None) where
      own_at : (slot : ℕ) → slot < SLOTS
          → theirs own_segment slot ≡ option_map renewed (mine own_segment slot)
      unfolding sources_fault
      own_at slot inside = (slot_moved slot inside).1
          (none_at (mine source_fault) 0 SLOTS slot none (omega arith) (omega (arith, inside)))

      own_moved : theirs own_segments ≡ map renewed (mine own_segments)
      unfolding own_segments
      own_moved = all_mapped renewed (mine own_segment) (theirs own_segment) slots
          (λ slot t. own_at slot (in_slots slot t))

      rounds_moved : theirs rounds ≡ moved_rounds (mine rounds)
      unfolding rounds requested_units
      rounds_moved =
          let own = mine own_segments in
          let queue = requested_given (units_of own) (all_unit_references own) [] in
          rw (own_moved, (known_moved renewed own).1, same_empty, all_given own, queue)
          (rw (append-nil own) at (follows all.fits))

      module _ (ended : mine added_fault ≡ None) where
        added_moved : theirs added_segments ≡ map renewed (mine added_segments)
        added_moved =
            let both = rounds_moved in
            let fine : theirs added_fault ≡ None =
            ap (λ (r : RoundsOutcome). r.fault) both ∙ ap refiled ended in
            sym (rounds_added c.order c.other c.others fine)
            ∙ ap (λ (r : RoundsOutcome). r.added) both
            ∙ ap (map renewed) (rounds_added c.order c.host c.libs ended)

        empty_moved : (slot : ℕ) → slot < SLOTS
            → theirs added_at slot ≡ option_map renewed (mine added_at slot)
        empty_moved slot inside = rw (← all.roles slot inside) (pick (is_role is_empty c.order
            c.host slot) _ _ (ap (find (λ (s : Segment). s.slot == slot)) added_moved
            ∙ find_mapped (λ (s : Segment). s.slot == slot) renewed (mine added_segments)))
          where
            pick : (b : Bool) (o p : Option Segment) → p ≡ option_map renewed o
                → (if b then p else None) ≡ option_map renewed (if b then o else None)
            pick b o p e = grind arith

        pub segments_moved : theirs segments ≡ map renewed (mine segments)
        unfolding segments
        segments_moved = all_mapped renewed (mine segment_at) (theirs segment_at) slots
            (λ slot t. or_moved renewed (mine own_segment slot) _ _ _
            (own_at slot (in_slots slot t)) (λ n. empty_moved slot (in_slots slot t)))

    -- the faults of the sources and of the rounds
    pub rest_moved : theirs reading_rest ≡ refiled (mine reading_rest)
    rest_moved = or_moved refile (mine sources_fault) _ _ _ sources_moved
        (λ n j. (rounds_moved n j).fault)
