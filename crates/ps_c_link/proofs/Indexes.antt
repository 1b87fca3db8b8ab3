-- The indexes of a fault are those of records and references for which a file has room.
use Rattle.std.specs.Prelude.{◌*◌, ◌/◌, ◌^◌}
use Rattle.ps_reading.proofs.Vocabulary.{◌≡◌, ◌+◌, ◌++◌, ◌<◌, ◌≤◌, ℕ, zero, suc, List, [], ◌∷◌, Bool, true, false, Option, Some, None, IfSome, All, All-append, All-cons, All-head, All-nil, All-tail, All-weaker, ap, arith, drop, inl, inr, length, length-drop, refl, slice_get, same_Some, slice_get_within, slice_index_or, subst, sym, take, Entry, Fault, Order, Reason, Record, Role, Segment, Wanted, added_segments, all_unit_references, entry_at, file_at, flat_map, is_already_known, is_host, is_unit_reference, needs_linking, own_segment, reading, requested_from, segment_at, unit_references, units_of}
use Rattle.std.proofs.lemmas.List.Elements.{All-take}
use Rattle.ps_codefile.specs.Dictionary.{information_of}
use Rattle.ps_linkinfo.specs.Records.{AreSpelled, Spells, Stops, refs_of, size_of}
use Rattle.ps_reading.proofs.EachSegment.{IsMade, added_made, at_slot, each_slot, find_has, own_made}
use Rattle.ps_lists.proofs.Items.{In, all_in, all_items, of_all}
use Rattle.ps_reading.proofs.OfRounds.{segment_named}
use Rattle.ps_reading.specs.Added.{requested_units, segments}
use Rattle.ps_reading.specs.Sources.{host_of, order_of, own_segments, records_of}
use Rattle.ps_reading.specs.declared.reading.added.UnitReference.{UnitReference}
use Rattle.ps_resolve.specs.Standing.{FaultAt, StandsIn}
use Rattle.ps_resolve.specs.Standing.Keys.{Step, OfHost, OfSlots, OfNoHost, OfLibraries, OfSources, OfAdded, OfDefinitions, OfPrivates, OfDataSize, OfReferences}
use Rattle.ps_resolve.specs.Standing.Definitions.{InDefinitions}
use Rattle.ps_resolve.specs.Standing.Privates.{InPrivates}
use Rattle.ps_resolve.specs.Standing.References.{InReferences}
use Rattle.ps_resolve.specs.Standing.Rounds.{InRound, IsRequested}
use Rattle.ps_resolve.specs.Standing.Sources.{CodeFault, EntryFault, InSources}
use Rattle.ps_c_link.specs.Answers.{AreInMemory, HasIndexes}
use Rattle.ps_c_link.specs.declared.answer.TheConstants.{NO_INDEX}

-- the reading of bytes spells its records, whether or not it ends with a fault
abbrev pub ReadingLaw : Type 0
ReadingLaw =
    ((order : Order) (bytes : List ℕ) (rs : List Record)
    → reading order bytes ≡ (rs, None) → Spells order bytes rs)
    × ((order : Order) (bytes : List ℕ) (rs : List Record) (why : Reason)
    → reading order bytes ≡ (rs, Some why) → Stops order bytes rs why)

-- 1. records that are spelled are no more than the bytes, and have no more references each
spelled_len : (order : Order) (bytes : List ℕ) (rs : List Record) → AreSpelled order bytes rs
    → length rs ≤ length bytes
spelled_len order bytes [] h = omega arith
spelled_len order bytes (r ∷ rs) h =
    grind (arith, length-drop, spelled_len order (drop (size_of r) bytes) rs h.1)

-- a list of so many references takes more bytes
list_fits : (n m : ℕ) → 16 + 16 * ((n + 7) / 8) ≤ m → n ≤ m
list_fits n m h = omega (arith, h)

spelled_refs : (order : Order) (bytes : List ℕ) (rs : List Record) → AreSpelled order bytes rs
    → (k : ℕ) (r : Record) → slice_get rs k ≡ Some r → length (refs_of r.body) ≤ length bytes
spelled_refs order bytes [] h k r e = absurd (cc)
spelled_refs order bytes (x ∷ rs) h zero r e =
    subst (λ (y : Record). length (refs_of y.body) ≤ length bytes) (same_Some x r e)
    (list_fits (length (refs_of x.body)) (length bytes) h.0.whole)
spelled_refs order bytes (x ∷ rs) h (suc k) r e =
    grind (arith, length-drop, spelled_refs order (drop (size_of x) bytes) rs h.1 k r e)

-- what holds of all that each of some gives
each_flat : {A C : Type 0} (P : C → Type 0) (f : A → List C) (xs : List A)
    → All (λ x. All P (f x)) xs → All P (flat_map f xs)
each_flat P f [] all = All-nil P
each_flat {A} P f (x ∷ xs) all = All-append P (f x) (flat_map f xs)
    (All-head (λ (y : A). All P (f y)) x xs all)
    (each_flat P f xs (All-tail (λ (y : A). All P (f y)) x xs all))

module _ (most : ℕ) where
  abbrev HasBelow : Fault → Type 0
  HasBelow f = IfSome f.rec (λ rec. rec ≤ most) × IfSome f.reference (λ i. i ≤ most)

  -- so many records, each with so many references
  record Fit (rs : List Record) : Type 0 where
    many : length rs ≤ most
    refs : (k : ℕ) (r : Record) → slice_get rs k ≡ Some r → length (refs_of r.body) ≤ most

  -- 2. the records of a segment
  module _ (law : ReadingLaw) where
    read_spelled : (order : Order) (bytes : List ℕ)
        → AreSpelled order bytes (reading order bytes).0
    read_spelled order bytes = by (reading order bytes).0 (reading order bytes).1 refl
      where
        by : (rs : List Record) (o : Option Reason) → reading order bytes ≡ (rs, o)
            → AreSpelled order bytes rs
        by rs None e = (law.0 order bytes rs e).spelled
        by rs (Some why) e = (law.1 order bytes rs why e).spelled

    read_fits : (order : Order) (bytes : List ℕ) → length bytes ≤ most
        → Fit (reading order bytes).0
    read_fits order bytes short =
        let spelled = read_spelled order bytes in
        record {
          many = omega (arith, spelled_len order bytes (reading order bytes).0 spelled, short);
          refs = λ k r e. omega (
            arith,
            short,
            spelled_refs order bytes (reading order bytes).0 spelled k r e,
          );
        }

    none_fits : Fit []
    none_fits = record { many = omega arith; refs = λ k r e. absurd (cc) }

    information_short : (file : List ℕ) (e : Entry) → length file ≤ most
        → length (information_of file e) ≤ most
    information_short file e short = grind (arith, length-drop)

    records_fit : (order : Order) (file : List ℕ) (e : Entry) (linked : Bool)
        → length file ≤ most → Fit (records_of order file e linked)
    records_fit order file e true short =
        read_fits order (information_of file e) (information_short file e short)
    records_fit order file e false short = none_fits

    module _ (order : Order) (host : List ℕ) (libs : List (List ℕ))
        (short : All (λ file. length file ≤ most) (host ∷ libs)) where
      file_short : (k : ℕ) → length (file_at host libs k) ≤ most
      file_short k = by (slice_get (host ∷ libs) k) refl
        where
          by : (o : Option (List ℕ)) → slice_get (host ∷ libs) k ≡ o
              → length (file_at host libs k) ≤ most
          by None e = rw e (omega arith)
          by (Some file) e = rw e (of_all (λ (x : List ℕ). length x ≤ most) (host ∷ libs) short k
              file e)

      made_fits : (slot : ℕ) (name : List ℕ) (r : Role) (place : ℕ × ℕ) (s : Segment)
          → IsMade order host libs slot name r place s → Fit s.records
      made_fits slot name r place s made =
          subst Fit (sym (ap (λ (q : Segment). q.records) made.is))
          (records_fit order (file_at host libs place.0)
          (entry_at order (file_at host libs place.0) place.1) (needs_linking r)
          (file_short place.0))

      own_fits : (slot : ℕ) (s : Segment) → own_segment order host libs slot ≡ Some s
          → Fit s.records
      own_fits slot s e = let t = own_made order host libs slot s e in
          made_fits slot (entry_at order host slot).name t.0 t.2 s t.3

      added_fits : (j : ℕ) (s : Segment) → slice_get (added_segments order host libs) j ≡ Some s
          → Fit s.records
      added_fits j s e =
          let t = segment_named order host libs j s e in
          let made = added_made order host libs t.0 s.slot s t.1.brought in
          subst Fit (sym (ap (λ (q : Segment). q.records) made.2))
          (made_fits s.slot t.0.name _ made.0 made.1 made.3)

      segment_fits : (slot : ℕ) (s : Segment) → segment_at order host libs slot ≡ Some s
          → Fit s.records
      segment_fits slot s there =
          let added = added_segments order host libs in
          elim (at_slot order host libs (λ q. In q added) (all_in added) slot s there) [
            | inl own ↦ own_fits slot s own
            | inr t ↦ added_fits t.2.0 s t.2.1
          ]

      host_fits : (s : Segment) → host_of (segments order host libs) ≡ Some s → Fit s.records
      unfolding segments
      host_fits s e = (find_has (λ (q : Segment). Fit q.records) (λ (q : Segment). is_host q.role)
          (segments order host libs) s e
          (each_slot (λ (q : Segment). Fit q.records) (segment_at order host libs)
          (λ slot q inside there. segment_fits slot q there))).1

      -- 3. the records that request units
      abbrev IsBelow : UnitReference → Type 0
      IsBelow g = g.at.rec ≤ most

      references_below : (file slot n : ℕ) (rs : List Record) → n + length rs ≤ most
          → All IsBelow (unit_references file slot n rs)
      references_below file slot n [] few = All-nil IsBelow
      references_below file slot n (r ∷ rs) few = by (is_unit_reference r.body) refl
          (references_below file slot (n + 1) rs (omega (arith, few)))
        where
          first : UnitReference
          first = record {
            name = r.name;
            at = record { segment = record { file = file; slot = slot }; rec = n };
          }

          by : (b : Bool) → is_unit_reference r.body ≡ b
              → All IsBelow (unit_references file slot (n + 1) rs)
              → All IsBelow (unit_references file slot n (r ∷ rs))
          by true e rest = rw e (All-cons IsBelow first (unit_references file slot (n + 1) rs)
              (omega (arith, few)) rest)
          by false e rest = rw e rest

      requests_below : (units : List (List ℕ × ℕ)) (queue gs : List UnitReference)
          → All IsBelow queue → All IsBelow gs → All IsBelow (requested_from units queue gs)
      requests_below units queue [] old more = old
      requests_below units queue (g ∷ gs) old more =
          by (λ q before. requests_below units q gs before (All-tail IsBelow g gs more))
          (is_already_known units queue g.name) refl
        where
          by : ((q : List UnitReference) → All IsBelow q
              → All IsBelow (requested_from units q gs)) → (b : Bool)
              → is_already_known units queue g.name ≡ b
              → All IsBelow (requested_from units queue (g ∷ gs))
          by rest true e = rw e (rest queue old)
          by rest false e = rw e (rest (queue ++ g ∷ []) (All-append IsBelow queue (g ∷ []) old
              (All-cons IsBelow g [] (All-head IsBelow g gs more) (All-nil IsBelow))))

      all_fit : (k : ℕ) → All (λ (s : Segment). Fit s.records)
          (own_segments order host libs ++ take k (added_segments order host libs))
      unfolding own_segments
      all_fit k = All-append (λ (s : Segment). Fit s.records) (own_segments order host libs)
          (take k (added_segments order host libs))
          (each_slot (λ (q : Segment). Fit q.records) (own_segment order host libs)
          (λ slot q inside there. own_fits slot q there))
          (All-take (λ (s : Segment). Fit s.records) k (added_segments order host libs)
          (all_items (λ (s : Segment). Fit s.records) (added_segments order host libs) added_fits))

      requested_below : (k : ℕ) (g : UnitReference) → IsRequested order host libs k g → IsBelow g
      unfolding requested_units
      requested_below k g t =
          let all = own_segments order host libs ++ take k (added_segments order host libs) in
          of_all IsBelow (requested_units order host libs (take k (added_segments order host libs)))
          (requests_below (units_of (own_segments order host libs)) [] (all_unit_references all)
          (All-nil IsBelow) (each_flat IsBelow
          (λ (s : Segment). unit_references s.file s.slot 0 s.records) all
          (λ i d lt. (let s = slice_index_or all i d in references_below s.file s.slot 0 s.records
          (omega (arith, (all_fit k i d lt).many)))))) k g t.1

      -- 4. the faults of each step
      index_below : (rs : List Record) → Fit rs → (rec : ℕ) (r : Record)
          → slice_get rs rec ≡ Some r → rec ≤ most
      index_below rs fit rec r e = omega (arith, fit.many, slice_get_within rs rec r e)

      of_code : (file : List ℕ) (k : ℕ) (e : Entry) (slot : ℕ) (role : Role) (f : Fault)
          → length file ≤ most → CodeFault order file k e slot role f → HasBelow f
      of_code file k e slot role f short (inl t) = subst HasBelow (sym t.1) (tt, tt)
      of_code file k e slot role f short (inr t) = elim t.2.1 [
        | inl b ↦ subst HasBelow (sym b.1) (tt, tt)
        | inr r ↦ subst HasBelow (sym r.2) (
          omega (
            arith,
            spelled_len order (information_of file e) r.0 r.3.spelled,
            information_short file e short,
          ),
          tt,
        )
      ]

      of_entries : (name : List ℕ) (slot : ℕ) (f : Fault)
          → EntryFault order name libs slot f → HasBelow f
      of_entries name slot f t = subst HasBelow (sym t.3.1.1) (tt, tt)

      in_sources : (f : Fault) → InSources order host libs f → HasBelow f
      in_sources f t = elim t.2.2 [
        | inl (wanted, inl m) ↦ subst HasBelow (sym m.0) (tt, tt)
        | inl (wanted, inr entries) ↦ of_entries (entry_at order host t.0).name t.0 f entries
        | inr c ↦ of_code (file_at host libs c.0.0) c.0.0
            (entry_at order (file_at host libs c.0.0) c.0.1) t.0 t.2.0 f (file_short c.0.0) c.2
      ]

      in_round : (k : ℕ) (f : Fault) → InRound order host libs k f → HasBelow f
      in_round k f t = elim t.2 [
        | inl m ↦ subst HasBelow (sym m.0) (requested_below k t.0 t.1, tt)
        | inr (inl n) ↦ subst HasBelow (sym n.0) (requested_below k t.0 t.1, tt)
        | inr (inr (slot, left, inl e)) ↦ of_entries t.0.name slot f e
        | inr (inr (slot, left, inr c)) ↦ of_code (file_at host libs c.0.0) c.0.0
            (entry_at order (file_at host libs c.0.0) c.0.1) slot Wanted f (file_short c.0.0) c.2
      ]

      in_definitions : (f : Fault) → InDefinitions order host libs f → HasBelow f
      in_definitions f t =
          let item = t.2 in
          subst HasBelow (sym item.3.0) (
            index_below t.0.records (host_fits t.0 t.1) item.0 item.1 item.2,
            tt,
          )

      in_privates : (f : Fault) → InPrivates order host libs f → HasBelow f
      in_privates f t =
          let item = t.2 in
          subst HasBelow (sym item.3.1) (
            index_below t.0.records (segment_fits t.0.slot t.0 t.1.1) item.0 item.1 item.2,
            tt,
          )

      in_references : (f : Fault) → InReferences order host libs f → HasBelow f
      in_references f t =
          let fit = segment_fits t.0.slot t.0 t.1.1 in
          let item = t.2 in
          let rec = index_below t.0.records fit item.0 item.1 item.2 in
          elim item.3 [
            | inl b ↦ subst HasBelow (sym b.1) (rec, tt)
            | inr i ↦ subst HasBelow (sym i.3.1) (
              rec,
              omega (
                arith,
                slice_get_within (refs_of item.1.body) i.0 i.1 i.2,
                fit.refs item.0 item.1 item.2,
              ),
            )
          ]

      pub below : (step : Step) (f : Fault) → StandsIn step order host libs f → HasBelow f
      below OfHost f h = subst HasBelow (sym h.1) (tt, tt)
      below OfSlots f h = subst HasBelow (sym h.2.1) (tt, tt)
      below OfNoHost f h = subst HasBelow (sym h.0) (tt, tt)
      below OfLibraries f h = subst HasBelow (sym h.3.1) (tt, tt)
      below OfSources f h = in_sources f h
      below (OfAdded k) f h = in_round k f h
      below OfDefinitions f h = in_definitions f h
      below OfPrivates f h = in_privates f h
      below OfDataSize f h = subst HasBelow (sym h.2.2.0) (tt, tt)
      below OfReferences f h = in_references f h

-- what is not above 2 ^ 63 is below the highest number of 64 bits
told : (o : Option ℕ) → IfSome o (λ i. i ≤ 9223372036854775808) → IfSome o (λ i. i < NO_INDEX)
told None h = tt
told (Some i) h = omega (arith, h)

at_most : (n : ℕ) → n < 9223372036854775808 → n ≤ 9223372036854775808
at_most n lt = omega (arith, lt)

pub indexes : ReadingLaw → (host : List ℕ) (libs : List (List ℕ)) (step : Step) (f : Fault)
    → AreInMemory host libs → FaultAt host libs step f → HasIndexes f
indexes law host libs step f memory h =
    let short : All (λ file. length file ≤ 9223372036854775808) (host ∷ libs) =
    All-cons (λ (file : List ℕ). length file ≤ 9223372036854775808) host libs
    (at_most (length host) memory.0)
    (All-weaker (λ (file : List ℕ). length file < 2 ^ 63)
    (λ (file : List ℕ). length file ≤ 9223372036854775808)
    (λ file lt. at_most (length file) lt) libs memory.1) in
    let b = below 9223372036854775808 law (order_of host) host libs short step f h.stands in
    (told f.rec b.0, told f.reference b.1)
