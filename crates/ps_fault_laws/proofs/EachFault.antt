-- The fault that is first is about what has the name that is computed.
use Rattle.ps_laws.proofs.Vocabulary.{◌≡◌, ◌∙◌, ◌+◌, ◌<◌, ◌≤◌, ◌∷◌, ◌⊎◌, ℕ, Bool, true, false, List, length, take, Option, Some, None, Result, Ok, arith, ap, inl, inr, refl, subst, sym, some_pair_parts, slice_get, option_map, option_map_or, result_ok, in_file, in_record, in_slot, Fault, Reason, Order, entry_at, is_empty, is_host, SLOTS, Entry, Role, bad, Body, PublRef, Record, added_fault, added_segments, segments, sources_fault, reading_fault, Segment, file_at, host_of, library_file, order_of, own_segments, source_of, HasRole, SlotHas, UnitReference, IsFirst, StandsIn, OfAdded, OfDataSize, OfDefinitions, OfHost, OfLibraries, OfNoHost, OfPrivates, OfReferences, OfSlots, OfSources, Step, key, turn, PrivateHas, RecordHas, ReferenceHas, IsRequested, IsSegment, CodeFault, EntryFault, Before, IsOfLink, in_empty, rounds_fine, InRound}
use Rattle.ps_words.specs.FaultPlaces.{is_unread, read_record}
use Rattle.ps_words.specs.FaultText.{number_of}
use Rattle.ps_words.specs.declared.fault.Reason.TheVariants as reason
use Rattle.ps_codefile.specs.declared.entry.Role.TheVariants as role
use Rattle.ps_reading.specs.Added.{empty_slots, rounds}
use Rattle.ps_reading.specs.FaultNames.{fault_name}
use Rattle.ps_reading.specs.Faults.{host_fault, libraries_fault}
use Rattle.ps_reading.proofs.EachRound.{begins, rounds_added}
use Rattle.ps_laws.proofs.AddedUnits.{given, split_at}
use Rattle.ps_laws.proofs.FaultParts.{record_reason}
use Rattle.ps_lists.proofs.Items.{find_in, find_passes, of_take}
use Rattle.ps_laws.proofs.Least.{Least, this}
use Rattle.ps_laws.proofs.OfLink.{of_link}
use Rattle.ps_laws.proofs.OneName.{of_segments}
use Rattle.ps_laws.proofs.RequestedUnits.{empty_slot, found_added, own_at}
use Rattle.ps_laws.proofs.Rounds.{Earlier, Place, last_fault}
use Rattle.ps_laws.proofs.Segments.{own_in_slot}
use Rattle.ps_laws.proofs.Sources.{OneStop, step_5}
use Rattle.ps_laws.proofs.Steps.{step_1, step_4}
use Rattle.ps_laws.proofs.Whole.{unread}
use Rattle.ps_fault_laws.specs.About.{HasSlotAlone, IsAbout, IsNameInRecord, IsNameOfSlot, IsOfUnread}
use Rattle.ps_fault_laws.proofs.ReadSegments.{IsReadIn, read_of_link, read_of_round, read_of_slot}
use Rattle.ps_fault_laws.proofs.ReadNames.{named_by_entry, named_by_record, named_by_request}
use Rattle.ps_fault_laws.proofs.RequestedNames.{requested_at}

-- 1. the numbers of records that cannot be read
pub unread_between : (why : Reason) → is_unread why ≡ true
    → (19 ≤ number_of why) × (number_of why ≤ 23)
unread_between why h = grind arith

pub between_unread : (why : Reason) → 19 ≤ number_of why → number_of why ≤ 23
    → is_unread why ≡ true
between_unread why low high = grind arith

-- the record of a fault, where it was read
none_read : (f : Fault) → (f.rec ≡ None) ⊎ IsOfUnread f → read_record f ≡ None
none_read f (inl none) = grind arith
none_read f (inr t) = rw (between_unread f.reason t.0 t.1) refl

one_read : (f : Fault) (rec : ℕ) → f.rec ≡ Some rec → is_unread f.reason ≡ false
    → read_record f ≡ Some rec
one_read f rec e read = rw read e

pub not_unread : (f : Fault) → is_unread f.reason ≡ false → IsOfUnread f → ⊥
not_unread f read t = let e = sym read ∙ between_unread f.reason t.0 t.1 in cc

-- 2. the name of a fault by its parts
module _ (host : List ℕ) (libs : List (List ℕ)) where
  abbrev IsNamed : Fault → Type 0
  IsNamed f = IsAbout host libs f (fault_name host libs f)

  of_file : (f : Fault) (file : ℕ) (why : Reason) → f ≡ in_file file why → IsNamed f
  unfolding fault_name
  of_file f file why is = subst IsNamed (sym is) (record {
    in_record = λ rec h. absurd (let e = h.0 in cc);
    in_slot = λ slot h. absurd (let e = h.0 in cc);
    of_file = λ e. refl;
  })

  of_slot : (f : Fault) (slot : ℕ) → HasSlotAlone f slot → (of : List ℕ)
      → IsNameOfSlot (order_of host) host libs slot of
      → fault_name host libs f ≡ Some of → IsNamed f
  of_slot f slot (at, none) of has is = record {
    in_record = λ rec h. absurd (elim none [
      | inl e ↦ (let u = h.0 in cc)
      | inr t ↦ h.1 t
    ]);
    in_slot = λ other h. let same : slot ≡ other = (let u = h.0 in cc) in
        (of, rw same at has, is);
    of_file = λ e. absurd (cc);
  }

  of_record : (f : Fault) (slot rec : ℕ) → f.slot ≡ Some slot → f.rec ≡ Some rec
      → is_unread f.reason ≡ false → (of : List ℕ)
      → IsNameInRecord (order_of host) host libs f rec of
      → fault_name host libs f ≡ Some of → IsNamed f
  of_record f slot rec at e read of has is = record {
    in_record = λ other h. let same : rec ≡ other = (let u = h.0 in cc) in
        (of, rw same at has, is);
    in_slot = λ other h. absurd (elim h.1 [
      | inl none ↦ cc
      | inr t ↦ not_unread f read t
    ]);
    of_file = λ none. absurd (cc);
  }

-- 3. steps
-- a key begins with the turn of its step
key_turn : (s : Step) (f : Fault) → (rest : List ℕ) × (key s f ≡ turn s ∷ rest)
key_turn OfHost f = (_, refl)
key_turn other f = (_, refl)

-- a key is before none of an earlier turn
not_before : (s t : Step) (f g : Fault) → turn t < turn s → Before (key s f) (key t g) → ⊥
not_before s t f g lt b =
    let a = key_turn s f in
    let c = key_turn t g in
    elim (rw (a.1, c.1) at b) [
      | inl less ↦ omega (arith, lt, less)
      | inr u ↦ (let same = u.0 in omega (arith, lt, same))
    ]

-- nothing is found where nothing applies
absent : {B : Fault → Fault → Type 0} {P : Fault → Type 0} (o : Option Fault) → Least B P o
    → ((g : Fault) → P g → ⊥) → o ≡ None
absent None least none = refl
absent (Some g) (this x s l) none = absurd (none x s)

-- the smallest of what applies applies
smallest : {X : Type 0} {B : X → X → Type 0} {S : X → Type 0} {x : X} → Least B S (Some x) → S x
smallest (this x s l) = s

-- a round is known by its step, and a key of a round is before none of an earlier round
round_number : (j k : ℕ) → OfAdded j ≡ OfAdded k → j ≡ k
round_number j k e = cc

not_later : (k j : ℕ) (f g : Fault) → Before (key (OfAdded k) f) (key (OfAdded j) g) → k ≤ j
not_later k j f g (inl less) = omega (arith, less)
not_later k j f g (inr (same, inl less)) = omega (arith, less)
not_later k j f g (inr (same, inr later)) = (let e = later.0 in omega (arith, e))

-- a segment that is added before the fault is that of a round
in_rounds : (order : Order) (host : List ℕ) (libs : List (List ℕ)) (j : ℕ) (s : Segment)
    → j < length (rounds order host libs).added
    → slice_get (added_segments order host libs) j ≡ Some s
    → slice_get (rounds order host libs).added j ≡ Some s
in_rounds order host libs j s early e =
    let added = (rounds order host libs).added in
    elim (split_at added (begins order host libs).0 j s
    (sym (ap (λ (l : List Segment). slice_get l j) (begins order host libs).1) ∙ e)) [
      | inl h ↦ h
      | inr u ↦ (let at = u.1 in absurd (omega (arith, at, early)))
    ]

-- what applies to a slot is said of one that is not empty
two_roles : (r : Result Role Reason) (a b : Role) → r ≡ Ok a → r ≡ Ok b → a ≡ b
two_roles r a b e u = cc

filled : (order : Order) (host : List ℕ) (slot : ℕ) (why : Reason)
    → SlotHas order host slot why → HasRole order host slot role.Empty → ⊥
filled order host slot reason.TwoHosts h e =
    let two = two_roles _ role.Host role.Empty h.0 e in cc
filled order host slot reason.DoubledSegment h e = elim h.0 [
  | inl u ↦ (let two = two_roles _ role.Unit role.Empty u e in cc)
  | inr u ↦ (let two = two_roles _ role.Wanted role.Empty u e in cc)
]
filled order host slot other h e = let both = sym h ∙ e in cc

pub empty_is : (r : Result Role Reason) → option_map_or is_empty (result_ok r) false ≡ true
    → r ≡ Ok role.Empty
empty_is r h = grind arith

host_role : (r : Role) → is_host r ≡ true → r ≡ role.Host
host_role r h = grind arith

-- a fault of a slot, and so one of a library's entries, of a code, its tables and its records
alone : (f : Fault) (file slot : ℕ) (why : Reason) → f ≡ in_slot file slot why
    → HasSlotAlone f slot
alone f file slot why is = (rw is refl, inl (rw is refl))

of_entries : (order : Order) (name : List ℕ) (libs : List (List ℕ)) (slot : ℕ) (f : Fault)
    → EntryFault order name libs slot f → HasSlotAlone f slot
of_entries order name libs slot f t = alone f _ slot _ t.3.1.1

unread_reason : (order : Order) (bytes : List ℕ) (why : Reason) → bad order bytes ≡ Some why
    → is_unread why ≡ true
unread_reason = record_reason (λ why. is_unread why ≡ true) refl refl refl refl refl

of_code : (order : Order) (file : List ℕ) (k : ℕ) (e : Entry) (slot : ℕ) (r : Role)
    (f : Fault) → CodeFault order file k e slot r f → HasSlotAlone f slot
of_code order file k e slot r f (inl t) = alone f k slot t.0 t.1
of_code order file k e slot r f (inr (code, whole, (linked, inl b))) = alone f k slot b.0 b.1
of_code order file k e slot r f (inr (code, whole, (linked, inr u))) = (
  rw u.2 refl,
  inr (rw u.2 (unread_between u.1 (unread_reason order _ u.1 u.3.stops))),
)

-- the faults of records that are looked at once they were read
of_private : (segs : List Segment) (s : Segment) (rec : ℕ) (r : Record) (why : Reason)
    → PrivateHas segs s rec r why → is_unread why ≡ false
of_private segs s rec r reason.DoubledPrivate h = refl
of_private segs s rec r reason.NoRoom h = refl
of_private segs s rec r other h = absurd h

of_name : (segs : List Segment) (name : List ℕ) (body : Body) (why : Reason)
    → RecordHas segs name body why → is_unread why ≡ false
of_name segs name (PublRef refs) reason.MissingDefinition h = refl
of_name segs name (PublRef refs) reason.IllKind h = refl
of_name segs name body other h = absurd h

of_reference : (order : Order) (segs : List Segment) (s : Segment) (rec : ℕ) (r : Record)
    (i x : ℕ) (why : Reason) → ReferenceHas order segs s rec r i x why
    → is_unread why ≡ false
of_reference order segs s rec r i x reason.OutsideCode h = refl
of_reference order segs s rec r i x reason.ReservedPlace h = refl
of_reference order segs s rec r i x reason.Overlap h = refl
of_reference order segs s rec r i x reason.OperandTooLarge h = refl
of_reference order segs s rec r i x other h = absurd h

module _ (law : OneStop) (host : List ℕ) (libs : List (List ℕ)) (f : Fault)
    (first : IsFirst host libs f) where
  -- no fault of an earlier step applies
  no_earlier : (st : Step) → turn st < turn first.step → (g : Fault)
      → StandsIn st (order_of host) host libs g → ⊥
  no_earlier st lt g s = elim (first.least st g (record { stands = s })) [
    | inl e ↦ (let same = ap turn e.0 in omega (arith, same, lt))
    | inr b ↦ not_before first.step st f g lt b
  ]

  host_fine : 1 < turn first.step → host_fault host ≡ None
  host_fine lt = absent (host_fault host) (step_1 host) (no_earlier OfHost (omega (arith, lt)))

  libraries_fine : 4 < turn first.step → libraries_fault (order_of host) libs ≡ None
  libraries_fine lt = absent (libraries_fault (order_of host) libs) (step_4 (order_of host) libs)
      (no_earlier OfLibraries (omega (arith, lt)))

  sources_fine : 5 < turn first.step → sources_fault (order_of host) host libs ≡ None
  sources_fine lt = absent (sources_fault (order_of host) host libs)
      (step_5 law (order_of host) host libs) (no_earlier OfSources (omega (arith, lt)))

  reading_fine : 6 < turn first.step → reading_fault host libs ≡ None
  reading_fine lt = unread law host libs
      (λ st g early h. no_earlier st (omega (arith, early, lt)) g h.stands)

  -- of a slot that is not empty
  own_slot : (slot : ℕ) → slot < SLOTS → 1 < turn first.step
      → (HasRole (order_of host) host slot role.Empty → ⊥) → HasSlotAlone f slot
      → IsNamed host libs f
  own_slot slot inside lt has at =
      of_slot host libs f slot at (entry_at (order_of host) host slot).name (inl (has, refl))
      (named_by_entry host libs (host_fine lt) f slot at.0 inside (none_read f at.1) has)

  -- of a record of a segment that was read
  own_record : (s : Segment) → IsSegment (order_of host) host libs s
      → IsReadIn (order_of host) host libs s.slot s → (rec : ℕ) (r : Record)
      → slice_get s.records rec ≡ Some r → 5 < turn first.step → (i : Option ℕ)
      (why : Reason)
      → f ≡ record {
        reason = why;
        file = s.file;
        slot = Some s.slot;
        rec = Some rec;
        reference = i;
      } → is_unread why ≡ false → IsNamed host libs f
  own_record s there found rec r e lt i why is read =
      let at : f.slot ≡ Some s.slot = rw is refl in
      let u : f.rec ≡ Some rec = rw is refl in
      let known : is_unread f.reason ≡ false = rw is read in
      of_record host libs f s.slot rec at u known r.name (s, there, (rw is refl, at, r, e, refl))
      (named_by_record host libs (host_fine (omega (arith, lt))) f s.slot at there.0
      (libraries_fine (omega (arith, lt))) s found rec (one_read f rec u known) r e)

  -- of a segment of the link, where the rounds have no fault
  linked_read : (s : Segment) → IsSegment (order_of host) host libs s → 6 < turn first.step
      → IsReadIn (order_of host) host libs s.slot s
  linked_read s there lt = read_of_link (order_of host) host libs
      (sources_fine (omega (arith, lt))) s.slot there.0 s (rounds_fine host libs (reading_fine lt))
      there.1

  linked_record : (s : Segment) → IsSegment (order_of host) host libs s → (rec : ℕ)
      (r : Record) → slice_get s.records rec ≡ Some r → 6 < turn first.step → (i : Option ℕ)
      (why : Reason)
      → f ≡ record {
        reason = why;
        file = s.file;
        slot = Some s.slot;
        rec = Some rec;
        reference = i;
      } → is_unread why ≡ false → IsNamed host libs f
  linked_record s there rec r e lt =
      own_record s there (linked_read s there lt) rec r e (omega (arith, lt))

  -- no round before that of the first fault has a fault
  none_before : (k : ℕ) (g : UnitReference) → first.step ≡ OfAdded k
      → IsRequested (order_of host) host libs k g
      → k ≤ length (rounds (order_of host) host libs).added
  none_before k g here t =
      by (added_fault (order_of host) host libs) refl (last_fault law (order_of host) host libs)
    where
      by : (o : Option Fault) → added_fault (order_of host) host libs ≡ o
          → Least Earlier (λ p. (j : ℕ) × (x : Fault) × (p ≡ (OfAdded j, x))
          × InRound (order_of host) host libs j x)
          (option_map {U = Place}
          (λ x. (OfAdded (0 + length (rounds (order_of host) host libs).added), x)) o)
          → k ≤ length (rounds (order_of host) host libs).added
      by None e least =
          let same = ap (λ (l : List Segment). length l)
          (rounds_added (order_of host) host libs e) in
          let low = t.0 in
          omega (arith, same, low)
      by (Some x) e least =
          let last = smallest least in
          let at = round_number _ last.0 (ap (λ (p : Place). p.0) last.2) in
          elim (first.least (OfAdded last.0) last.1 (record { stands = last.3 })) [
            | inl u ↦ (let same = round_number last.0 k (u.0 ∙ here) in omega (arith, same, at))
            | inr b ↦ (let low = not_later k last.0 f last.1 (rw here at b) in
                omega (arith, low, at))
          ]

  -- the segment of the record that requests a name
  giver : (k : ℕ) (g : UnitReference) → IsRequested (order_of host) host libs k g
      → k ≤ length (rounds (order_of host) host libs).added → 5 < turn first.step
      → (s : Segment) × IsSegment (order_of host) host libs s
      × IsReadIn (order_of host) host libs s.slot s × (g.at.segment.file ≡ s.file)
      × (g.at.segment.slot ≡ s.slot) × (r : Record)
      × (slice_get s.records g.at.rec ≡ Some r) × (r.name ≡ g.name)
  giver k g t few lt =
      let order : Order = order_of host in
      let by = given order host libs (take k (added_segments order host libs)) k g t.1 in
      let s = by.1.0.0 in
      let asks = by.1.1 in
      let same : asks.0 ≡ s = (let a = asks.1 in let b = by.1.0.1 in cc) in
      let there : IsSegment order host libs s × IsReadIn order host libs s.slot s =
      elim (split_at (own_segments order host libs) _ by.0 s by.1.0.1) [
        | inl h ↦
            let o = own_at order host libs s (by.0, h) in
            let at = own_in_slot order host libs o.0 s o.2 in
            rw at (
              (o.1, rw o.2 refl),
              read_of_slot order host libs (sources_fine lt) o.0 o.1 s o.2,
            )
        | inr u ↦
            let v = of_take k (added_segments order host libs) u.0 s u.2 in
            let at = (empty_slot order host u.0 s.slot
            (in_empty order host libs u.0 s v.1)).1 in
            let inside : s.slot < SLOTS = omega (arith, at) in
            let early : u.0 < length (rounds order host libs).added = omega (arith, v.0, few) in (
              (inside, found_added order host libs u.0 s v.1),
              read_of_round order host libs (sources_fine lt) s.slot inside s u.0
                  (in_rounds order host libs u.0 s early v.1) refl,
            )
      ] in (
        s,
        there.0,
        there.1,
        by.1.0.2,
        by.1.0.3,
        asks.2,
        rw same at asks.3,
        asks.5,
      )

  -- of a record that requests a name
  of_giver : (k : ℕ) (g : UnitReference) → first.step ≡ OfAdded k
      → IsRequested (order_of host) host libs k g → (why : Reason) → is_unread why ≡ false
      → f ≡ in_record g.at.segment.file g.at.segment.slot g.at.rec why → IsNamed host libs f
  of_giver k g here t why read is =
      let lt : 5 < turn first.step = rw here (omega arith) in
      let by = giver k g t (none_before k g here t) lt in
      let file = by.3 in
      let slot = by.4 in
      own_record by.0 by.1 by.2 g.at.rec by.5 by.6 lt None why (cc) read

  -- of the unit that takes an empty slot
  in_round : (k : ℕ) (g : UnitReference) → first.step ≡ OfAdded k
      → IsRequested (order_of host) host libs k g
      → (slot : ℕ) → slice_get (empty_slots (order_of host) host) k ≡ Some slot
      → HasSlotAlone f slot → IsNamed host libs f
  in_round k g here t slot left at =
      let order : Order = order_of host in
      let lt : 5 < turn first.step = rw here (omega arith) in
      let low = empty_slot order host k slot left in
      let high = low.1 in
      of_slot host libs f slot at g.name (inr (k, g, t, left, refl))
      (named_by_request host libs (host_fine (omega (arith, lt))) f slot at.0 (omega (arith, high))
      (libraries_fine (omega (arith, lt))) (none_read f at.1) (empty_is _ low.2) g
      (requested_at order host libs k g t (none_before k g here t) (sources_fine lt) slot left))

  -- the host's own segment
  host_segment : 6 < turn first.step → (s : Segment)
      → host_of (segments (order_of host) host libs) ≡ Some s
      → IsSegment (order_of host) host libs s × (0 ≡ s.file)
      × HasRole (order_of host) host s.slot role.Host
  host_segment lt s e =
      let order : Order = order_of host in
      let test : Segment → Bool = λ q. is_host q.role in
      let i = find_in test (segments order host libs) s e in
      let is = of_segments order host libs i.0 s i.1 in
      let known = of_link host libs (reading_fine lt) s is in
      let passes = find_passes test (segments order host libs) s e in
      let host_has = of_host s known passes in
      (is, host_has.0, host_has.1)
    where
      of_host : (s : Segment) → IsOfLink (order_of host) host libs s → is_host s.role ≡ true
          → (0 ≡ s.file) × HasRole (order_of host) host s.slot role.Host
      of_host s known h = elim known.requested [
        | inl own ↦ (
          (some_pair_parts 0 s.file s.slot s.index
              (rw (host_role s.role h) at own.source)).0,
          own.role ∙ ap Ok (host_role s.role h),
        )
        | inr t ↦ absurd (let e = sym (ap is_host t.2.role) ∙ h in cc)
      ]

  wants : (slot : ℕ) (r : Role) → HasRole (order_of host) host slot r → r ≡ role.Wanted
      → HasRole (order_of host) host slot role.Empty → ⊥
  wants slot r has wanted empty = let e = sym (two_roles _ r role.Empty has empty) ∙ wanted in cc

  has_source : (slot : ℕ) (r : Role) → HasRole (order_of host) host slot r → (at : ℕ × ℕ)
      → source_of (order_of host) host libs slot r ≡ Some at
      → HasRole (order_of host) host slot role.Empty → ⊥
  has_source slot r has at source empty =
      let none = rw (two_roles _ r role.Empty has empty) at source in cc

  of_code_at : (slot : ℕ) (r : Role) (at : ℕ × ℕ)
      → CodeFault (order_of host) (file_at host libs at.0) at.0
      (entry_at (order_of host) (file_at host libs at.0) at.1) slot r f → HasSlotAlone f slot
  of_code_at slot r at = of_code (order_of host) (file_at host libs at.0) at.0
      (entry_at (order_of host) (file_at host libs at.0) at.1) slot r f

  by_step : (step : Step) → first.step ≡ step → StandsIn step (order_of host) host libs f
      → IsNamed host libs f
  by_step OfHost e t = of_file host libs f 0 t.0 t.1
  by_step OfSlots e t = own_slot t.0 t.1 (rw e (omega arith))
      (filled (order_of host) host t.0 t.2.0 t.2.2) (alone f 0 t.0 _ t.2.1)
  by_step OfNoHost e t = of_file host libs f 0 reason.NoHost t.0
  by_step OfLibraries e t = of_file host libs f (library_file t.0) t.3.0 t.3.1
  by_step OfSources e (slot, inside, (r, has, inl (wanted, inl m))) =
      own_slot slot inside (rw e (omega arith)) (wants slot r has wanted) (alone f 0 slot _ m.0)
  by_step OfSources e (slot, inside, (r, has, inl (wanted, inr u))) =
      own_slot slot inside (rw e (omega arith)) (wants slot r has wanted)
      (of_entries (order_of host) _ libs slot f u)
  by_step OfSources e (slot, inside, (r, has, inr c)) =
      own_slot slot inside (rw e (omega arith)) (has_source slot r has c.0 c.1)
      (of_code_at slot r c.0 c.2)
  by_step (OfAdded k) e (g, t, inl m) =
      of_giver k g e t reason.MissingUnit refl m.0
  by_step (OfAdded k) e (g, t, inr (inl n)) =
      of_giver k g e t reason.NoSlot refl n.0
  by_step (OfAdded k) e (g, t, inr (inr (slot, left, inl u))) =
      in_round k g e t slot left
      (of_entries (order_of host) g.name libs slot f u)
  by_step (OfAdded k) e (g, t, inr (inr (slot, left, inr c))) =
      in_round k g e t slot left
      (of_code_at slot role.Wanted c.0 c.2)
  by_step OfDefinitions e t =
      let of = host_segment (rw e (omega arith)) t.0 t.1 in
      linked_record t.0 of.0 t.2.0 t.2.1 t.2.2 (rw e (omega arith)) None _ (rw of.1 at t.2.3.0) refl
  by_step OfPrivates e t =
      linked_record t.0 t.1 t.2.0 t.2.1 t.2.2 (rw e (omega arith)) None t.2.3.0 t.2.3.1
      (of_private (segments (order_of host) host libs) t.0 t.2.0 t.2.1 t.2.3.0 t.2.3.2)
  by_step OfDataSize e t =
      let of = host_segment (rw e (omega arith)) t.0 t.1 in
      own_slot t.0.slot of.0.0 (rw e (omega arith))
      (λ u. let two = two_roles _ role.Host role.Empty of.2 u in cc)
      (alone f 0 t.0.slot _ t.2.2.0)
  by_step OfReferences e (s, there, (rec, r, at, inl u)) =
      linked_record s there rec r at (rw e (omega arith)) None u.0 u.1
      (of_name (segments (order_of host) host libs) r.name r.body u.0 u.2)
  by_step OfReferences e (s, there, (rec, r, at, inr (i, x, ref, u))) =
      linked_record s there rec r at (rw e (omega arith)) (Some i) u.0 u.1
      (of_reference (order_of host) (segments (order_of host) host libs) s rec r i x u.0 u.2)

  pub about : IsNamed host libs f
  about = by_step first.step refl first.stands.stands
