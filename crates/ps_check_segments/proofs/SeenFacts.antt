-- What is seen of the segments of a link, slot by slot and item by item.
use Rattle.std.proofs.Common.{◌≡◌, ◌≢◌, ◌∙◌, ◌+◌, ◌<◌, ◌++◌, [], ℕ, Bool, List, length, true, false, refl, sym, ap, subst, inl, inr, arith}
use Rattle.std.specs.Prelude.{◌⊎◌, ◌&&◌, Option, Some, None, Result, Ok, Err, filter_map, if◌then◌else◌, is_some, option_and_then, slice_get}
use Rattle.std.specs.List.{cons_option, find}
use Rattle.std.specs.Option.{option_map}
use Rattle.std.proofs.lemmas.Bool.{and_from, and_left, and_right, cases_Bool, eqb-true, lt-ltb}
use Rattle.std.proofs.lemmas.Option.{none-some, same_Some, slice_get_within}
use Rattle.ps_words.specs.declared.fault.Fault.{Fault}
use Rattle.ps_words.specs.declared.fault.Reason.{Reason}
use Rattle.ps_codefile.specs.Dictionary.{OpenedFile, entry_at, opened_beside, role_of, slots}
use Rattle.ps_codefile.specs.declared.dictionary_layout.TheConstants.{SLOTS}
use Rattle.ps_codefile.specs.declared.entry.Role.{Role}
use Rattle.ps_codefile.specs.declared.entry.Role.TheVariants as role
use Rattle.ps_linkinfo.specs.declared.record.LinkRecord.{LinkRecord as Record}
use Rattle.ps_reading.specs.KnownSegments.{is_in_slot}
use Rattle.ps_reading.specs.Standing.Phrases.{SomeItem}
use Rattle.ps_reading.specs.Standing.Slots.{HasRole}
use Rattle.ps_reading.specs.declared.reading.added.UnitReference.{UnitReference}
use Rattle.ps_reading.specs.declared.reading.request.Request.{Request}
use Rattle.ps_reading.specs.declared.slot_reading.Absent.{Absent}
use Rattle.ps_reading.specs.declared.slot_reading.Absent.TheVariants as absent
use Rattle.ps_lists.proofs.Items.{In, at_left, find_passes, right_at}
use Rattle.ps_reading.proofs.ReadingSlots.{host_ok}
use Rattle.ps_resolve.specs.Added.{empty_slots, is_missing, request_of}
use Rattle.ps_resolve.specs.Readings.{HostFiles, opened_host}
use Rattle.ps_resolve.specs.SlotReadings.{entry_in, first_in, is_left, outcome_by, reading_in, request_in, source_by, source_in, why_refused}
use Rattle.ps_resolve.specs.Sources.{Segment, file_at, opened_files}
use Rattle.ps_check_segments.specs.Paths.{host_order}
use Rattle.ps_check_segments.specs.Seen.{Origin, Seen, part_needs_linking}
use Rattle.ps_check_segments.specs.SeenFacts.{AreSeen, HasItem, HasRecordsOf, IsInSlot, IsLeft, IsNext, IsNowhere, IsOfEntry, IsOfMissing, IsOfSegment, IsPart, IsRefusedUnit, IsUnplaced}
use Rattle.ps_check_segments.specs.SeenSegments.{file_from, is_of_host, name_by, name_of_slot, origin_at, origin_of, part_in, place_from, records_at, records_from, requests_in, seen_absent, seen_by, seen_by_outcome, seen_in, seen_of, seen_read, seen_segment, seen_segments, seen_unit, seen_with, segments_in, unplaced}
use Rattle.ps_check_segments.specs.SegmentParts.{added_by}
use Rattle.ps_check_segments.specs.declared.segments.SegmentPart.{SegmentPart}
use Rattle.ps_lists.proofs.Places.{in_kept, of_find, of_joined, of_kept, of_option, rising}
use Rattle.ps_check_segments.proofs.Origins.{none_of}
use Rattle.ps_check_segments.proofs.Entries.{asked_missing, entry_opens, first_after, missing_when, wants_unit}
use Rattle.ps_check_segments.proofs.Requesters.{asked}
use Rattle.ps_check_segments.proofs.SlotsRead.{AddedLeft, AddedRead, AddedRefused, EmptyRead, OwnRead, OwnRefused, Unread, empty_read, own_read, refused_read, segment_found}
use Rattle.ps_check_segments.proofs.SeenParts.{refused_unit, not_refused, own_part, taken_part, added_part, Asks, Asked, of_record, read_part, own_read_part, added_read_part, of_segment}

-- an item that is of no segment that was read
module _ (slot : Option ℕ) (name : List ℕ) (what : SegmentPart) where
  abbrev item : Result (Origin × List Record) Absent → Seen
  item origin = seen_with slot name what origin

  record IsWith (origin : Result (Origin × List Record) Absent) (s : Seen) : Type 0 where
    slot_is : s.slot ≡ slot
    name_is : s.name ≡ name
    part_is : s.part ≡ what
    origin_is : s.origin ≡ place_from origin
    file_is : s.file ≡ file_from origin
    records_are : s.records ≡ (if part_needs_linking what then records_from origin else [])

  is_with : (origin : Result (Origin × List Record) Absent) → IsWith origin (item origin)
  unfolding seen_with
  is_with origin = record {
    slot_is = refl;
    name_is = refl;
    part_is = refl;
    origin_is = refl;
    file_is = refl;
    records_are = refl;
  }

  is_nowhere : (why : Absent) (s : Seen) → IsWith (Err why) s → IsNowhere s
  is_nowhere why s t = record {
    file = t.file_is;
    records = t.records_are ∙ none_of (part_needs_linking what);
  }

module _ (host : List ℕ) (libs : List (List ℕ)) (h : HostFiles)
    (is_host : opened_host host libs ≡ Ok h) where
  abbrev files : List (List ℕ)
  files = opened_files h.order h.libs

  abbrev seen_at : ℕ → Option Seen
  seen_at slot = seen_in host libs h slot

  -- the item of a slot that was not read
  abbrev absent_item : ℕ → SegmentPart → Absent → Seen
  absent_item slot what why = item (Some slot) (name_of_slot h slot) what
      (origin_at host libs (source_in h slot) why)

  -- what is seen of a slot of which this was read
  seen_by_reading : (slot : ℕ) (o : Option (Result Segment Fault)) → reading_in h slot ≡ o
      → seen_at slot ≡ seen_by_outcome host libs h slot (outcome_by h slot o)
  unfolding seen_in
  seen_by_reading slot o e = ap (λ (r : Option (Result Segment Fault)).
      seen_by_outcome host libs h slot (outcome_by h slot r)) e

  absent_is : (slot : ℕ) (why : Absent) (o : Option SegmentPart) → part_in h slot ≡ o
      → seen_absent host libs h slot why ≡ option_map (λ what. absent_item slot what why) o
  unfolding seen_absent
  absent_is slot why o e = ap (option_map (λ (what : SegmentPart). absent_item slot what why)) e

  read_is : (q : Segment) (b : Bool) → (q.added && is_of_host h q.name) ≡ b
      → seen_read h q ≡ (if b then None else Some (seen_segment h q))
  unfolding seen_read
  read_is q b e = ap (λ (b : Bool). if b then None else Some (seen_segment h q)) e

  named : (slot : ℕ) (s : Seen) (what : SegmentPart) (origin : Result (Origin × List Record) Absent)
      → IsWith (Some slot) (name_of_slot h slot) what origin s → IsPart h slot what
      → IsInSlot h s slot
  named slot s what origin t is = record {
    slot_is = t.slot_is;
    requested = λ r e. t.name_is ∙ ap (name_by (entry_at h.order h.file slot).name) e;
    own = λ e. t.name_is ∙ ap (name_by (entry_at h.order h.file slot).name) e;
    part = rw t.part_is is;
  }

  -- where a refused segment comes from
  order_is : host_order host ≡ h.order
  order_is = rw (host_ok host libs h is_host).0 refl

  abbrev EntryOpens : ℕ × ℕ → Type 0
  EntryOpens at = (at.1 < SLOTS)
      × ((d : OpenedFile) × (opened_beside (host_order host) (file_at host libs at.0) ≡ Ok d))

  opens : (slot : ℕ) (at : ℕ × ℕ) → slot < SLOTS → entry_in h slot ≡ Some at → EntryOpens at
  opens slot at low e = rw order_is (entry_opens host libs h is_host slot at low e)

  records_of : (d : OpenedFile) (index : ℕ) (s : Seen) → s.records
      ≡ (if part_needs_linking s.part then records_at index d else []) → HasRecordsOf d index s
  records_of d index s e = record {
    read = λ linked ok. e ∙ (rw (linked, ok));
    unread = λ bad. e ∙ (rw bad (none_of (part_needs_linking s.part)));
    unlinked = λ plain. e ∙ (rw plain);
  }

  abbrev origin_there : ℕ × ℕ → OpenedFile → Origin
  origin_there at d = record
      { file = at.0; index = at.1; size = (entry_at d.order d.file at.1).length }

  origin_is : (at : ℕ × ℕ) (d : OpenedFile) → at.1 < SLOTS
      → opened_beside (host_order host) (file_at host libs at.0) ≡ Ok d
      → origin_of host libs at ≡ Ok (origin_there at d, records_at at.1 d)
  unfolding origin_of
  origin_is at d low e = rw (lt-ltb at.1 SLOTS low, e)

  abbrev Kind : Seen → Type 0
  Kind s = SomeItem (segments_in h) (λ k q. IsOfSegment h s q)
      ⊎ (((o : Origin) × (s.origin ≡ Ok o) × IsOfEntry host libs h s o)
      ⊎ (((s.origin ≡ Err absent.Missing) × IsOfMissing h s)
      ⊎ ((s.origin ≡ Err absent.NotLookedFor) × IsLeft h s)))

  with_origin : (slot : ℕ) (what : SegmentPart) (why : Absent)
      (origin : Result (Origin × List Record) Absent)
      → origin_at host libs (source_in h slot) why ≡ origin
      → IsWith (Some slot) (name_of_slot h slot) what origin (absent_item slot what why)
  with_origin slot what why origin e = subst (λ (r : Result (Origin × List Record) Absent).
      IsWith (Some slot) (name_of_slot h slot) what r (absent_item slot what why)) e
      (is_with (Some slot) (name_of_slot h slot) what (origin_at host libs (source_in h slot) why))

  abbrev refused_item : ℕ → SegmentPart → Fault → Seen
  refused_item slot what f = absent_item slot what (why_refused (entry_in h slot) f)

  source_is : (slot : ℕ) (f : Fault) → reading_in h slot ≡ Some (Err f)
      → source_in h slot ≡ entry_in h slot
  source_is slot f e = ap (λ (r : Option (Result Segment Fault)). source_by r (entry_in h slot)) e

  of_entry : (slot : ℕ) (what : SegmentPart) (f : Fault) (at : ℕ × ℕ) → slot < SLOTS
      → reading_in h slot ≡ Some (Err f) → entry_in h slot ≡ Some at → IsPart h slot what
      → Kind (refused_item slot what f)
  of_entry slot what f at low e there is =
      let o = opens slot at low there in
      let from : origin_at host libs (source_in h slot) (why_refused (entry_in h slot) f)
      ≡ Ok (origin_there at o.1.0, records_at at.1 o.1.0) =
      ap (λ (k : Option (ℕ × ℕ)). origin_at host libs k (why_refused (entry_in h slot) f))
      (source_is slot f e ∙ there) ∙ origin_is at o.1.0 o.0 o.1.1 in
      by o.1.0 o.0 o.1.1 (refused_item slot what f)
      (with_origin slot what (why_refused (entry_in h slot) f)
      (Ok (origin_there at o.1.0, records_at at.1 o.1.0)) from)
    where
      by : (d : OpenedFile) → at.1 < SLOTS
          → opened_beside (host_order host) (file_at host libs at.0) ≡ Ok d → (s : Seen)
          → IsWith (Some slot) (name_of_slot h slot) what
          (Ok (origin_there at d, records_at at.1 d)) s → Kind s
      by d inside opened s t = inr (inl (
        origin_there at d,
        t.origin_is,
        record {
          slot = slot;
          fault = f;
          opened = d;
          in_slot = named slot s what (Ok (origin_there at d, records_at at.1 d)) t is;
          refused = e;
          entry = there;
          index = inside;
          opens = opened;
          size = refl;
          file = t.file_is;
          records = records_of d at.1 s (rw t.part_is t.records_are);
        },
      ))

  of_missing : (slot : ℕ) (what : SegmentPart) (f : Fault) (r : Request)
      → reading_in h slot ≡ Some (Err f) → entry_in h slot ≡ None → IsPart h slot what
      → request_in h slot ≡ Some r → is_missing h.order files r.name ≡ true
      → Kind (refused_item slot what f)
  of_missing slot what f r e none is asks missing =
      let from : origin_at host libs (source_in h slot) (why_refused (entry_in h slot) f)
      ≡ Err absent.Missing =
      ap (λ (k : Option (ℕ × ℕ)). origin_at host libs k (why_refused (entry_in h slot) f))
      (source_is slot f e ∙ none)
      ∙ ap (λ (k : Option (ℕ × ℕ)). Err (why_refused k f)) none in
      by (refused_item slot what f)
      (with_origin slot what (why_refused (entry_in h slot) f) (Err absent.Missing) from)
    where
      by : (s : Seen) → IsWith (Some slot) (name_of_slot h slot) what (Err absent.Missing) s → Kind s
      by s t = inr (inr (inl (
        t.origin_is,
        record {
          slot = slot;
          fault = f;
          request = r;
          in_slot = named slot s what (Err absent.Missing) t is;
          refused = e;
          requested = asks;
          missing = asked_missing h r.name missing;
          nowhere = is_nowhere (Some slot) (name_of_slot h slot) what absent.Missing s t;
        },
      )))

  of_left : (slot : ℕ) (what : SegmentPart) (f : Fault) (r : Request) → reading_in h slot ≡ None
      → IsPart h slot what → request_in h slot ≡ Some r → first_in h ≡ Some f
      → Kind (absent_item slot what absent.NotLookedFor)
  of_left slot what f r e is asks first =
      let from : origin_at host libs (source_in h slot) absent.NotLookedFor
      ≡ Err absent.NotLookedFor =
      ap (λ (o : Option (Result Segment Fault)). origin_at host libs
      (source_by o (entry_in h slot)) absent.NotLookedFor) e in
      by (absent_item slot what absent.NotLookedFor)
      (with_origin slot what absent.NotLookedFor (Err absent.NotLookedFor) from)
    where
      by : (s : Seen)
          → IsWith (Some slot) (name_of_slot h slot) what (Err absent.NotLookedFor) s → Kind s
      by s t = inr (inr (inr (
        t.origin_is,
        record {
          slot = slot;
          fault = f;
          request = r;
          in_slot = named slot s what (Err absent.NotLookedFor) t is;
          unread = e;
          requested = asks;
          after = first;
          nowhere = is_nowhere (Some slot) (name_of_slot h slot) what absent.NotLookedFor s t;
        },
      )))

  -- slot by slot
  abbrev Found : ℕ → Segment → Type 0
  Found slot q = find (is_in_slot slot) (segments_in h) ≡ Some q

  abbrev Shown : ℕ → Type 0
  Shown slot = (s : Seen) × (seen_at slot ≡ Some s) × (s.slot ≡ Some slot) × HasItem h slot × Kind s
      × ((q : Segment) → Found slot q → IsOfSegment h s q)

  abbrev Hidden : ℕ → Type 0
  Hidden slot = (seen_at slot ≡ None) × (HasItem h slot → ⊥)
      × ((q : Segment) → Found slot q → (q.added ≡ true) × IsRefusedUnit h q.name)

  one_found : (slot : ℕ) (q p : Segment) → Found slot q → Found slot p → q ≡ p
  one_found slot q p e d = same_Some q p (sym e ∙ d)

  none_at : (slot : ℕ) (q : Segment) (P : Type 0) → find (is_in_slot slot) (segments_in h) ≡ None
      → Found slot q → P
  none_at slot q P none e = absurd (none-some q (sym none ∙ e))

  show_read : (slot : ℕ) (q : Segment) → seen_at slot ≡ Some (seen_segment h q) → Found slot q
      → HasItem h slot → IsPart h slot (read_part h q) → Shown slot
  show_read slot q e found has what =
      let there = of_find (is_in_slot slot) (segments_in h) q found in
      let here = eqb-true q.slot slot (find_passes (is_in_slot slot) (segments_in h) q found) in
      let of = of_segment h q
      (subst (λ (k : ℕ). IsPart h k (read_part h q)) (sym here) what) in (
        seen_segment h q,
        e,
        of.slot ∙ ap (λ (k : ℕ). Some k) here,
        has,
        inl (there.0, q, there.1, of),
        λ p other. subst (IsOfSegment h (seen_segment h q)) (one_found slot q p found other) of,
      )

  -- the item of a slot that was not read
  show_absent : (slot : ℕ) (what : SegmentPart) (why : Absent)
      → seen_at slot ≡ Some (absent_item slot what why)
      → find (is_in_slot slot) (segments_in h) ≡ None → HasItem h slot
      → Kind (absent_item slot what why) → Shown slot
  show_absent slot what why e none has kind = (
    absent_item slot what why,
    e,
    (is_with (Some slot) (name_of_slot h slot) what (origin_at host libs (source_in h slot) why)).slot_is,
    has,
    kind,
    λ q found. none_at slot q (IsOfSegment h (absent_item slot what why) q) none found,
  )

  seen_read_is : (slot : ℕ) (q : Segment) (b : Bool) → reading_in h slot ≡ Some (Ok q)
      → (q.added && is_of_host h q.name) ≡ b
      → seen_at slot ≡ (if b then None else Some (seen_segment h q))
  seen_read_is slot q b e d = seen_by_reading slot (Some (Ok q)) e ∙ read_is q b d

  seen_refused_is : (slot : ℕ) (f : Fault) (o : Option SegmentPart)
      → reading_in h slot ≡ Some (Err f) → part_in h slot ≡ o
      → seen_at slot ≡ option_map (λ what. refused_item slot what f) o
  seen_refused_is slot f o e d = seen_by_reading slot (Some (Err f)) e
      ∙ absent_is slot (why_refused (entry_in h slot) f) o d

  seen_left_is : (slot : ℕ) (b : Bool) → reading_in h slot ≡ None → is_left h slot ≡ b
      → seen_at slot ≡ (if b then seen_absent host libs h slot absent.NotLookedFor else None)
  seen_left_is slot b e d = seen_by_reading slot None e ∙ by b
      (ap (λ (b : Bool). seen_by_outcome host libs h slot
      (if b then Some (Err absent.NotLookedFor) else None)) d)
    where
      by : (b : Bool) → seen_by_outcome host libs h slot (outcome_by h slot None)
          ≡ seen_by_outcome host libs h slot (if b then Some (Err absent.NotLookedFor) else None)
          → seen_by_outcome host libs h slot (outcome_by h slot None)
          ≡ (if b then seen_absent host libs h slot absent.NotLookedFor else None)
      by true e = e
      by false e = e

  refused_kind : (slot : ℕ) (what : SegmentPart) (f : Fault) → slot < SLOTS
      → reading_in h slot ≡ Some (Err f) → IsPart h slot what
      → (entry_in h slot ≡ None → (r : Request) × (request_in h slot ≡ Some r))
      → Kind (refused_item slot what f)
  refused_kind slot what f low e is asks = by (entry_in h slot) refl
    where
      by : (o : Option (ℕ × ℕ)) → entry_in h slot ≡ o → Kind (refused_item slot what f)
      by (Some at) there = of_entry slot what f at low e there is
      by None none = let r = asks none in
          of_missing slot what f r.0 e none is r.1 (missing_when h slot r.0 r.1 none)

  -- a slot that is not empty
  own_slot : (slot : ℕ) (r : Role) → slot < SLOTS → HasRole h.order h.file slot r
      → r ≢ role.Empty → Shown slot
  own_slot slot r low is other = by (own_read h.order h.file files slot r low is other)
    where
      by : OwnRead h.order h.file files slot r ⊎ OwnRefused h.order h.file files slot → Shown slot
      by (inl (q, e, found, own, wanted, named)) = show_read slot q
          (seen_read_is slot q false e (and_left q.added (is_of_host h q.name) own)) found
          (inl (r, is, other)) (own_read_part h slot r q is other wanted own)
      by (inr (f, e, none)) = let p = own_part h slot r is other in
          show_absent slot p.0 (why_refused (entry_in h slot) f)
          (seen_refused_is slot f (Some p.0) e p.1) none (inl (r, is, other))
          (refused_kind slot p.0 f low e p.2 (wants_unit h slot r is other))

  -- a slot of which nothing is read, and for which nothing is requested
  unread_slot : (slot : ℕ) → Unread h.order h.file files slot → (HasItem h slot → ⊥) → Hidden slot
  unread_slot slot (e, none, asks) no_item = (
    seen_left_is slot false e (and_right (is_some (first_in h)) (is_some (request_in h slot))
        (ap (λ (o : Option Request). is_some o) asks)),
    no_item,
    λ q found. none_at slot q _ none found,
  )

  -- an empty slot for which a unit is requested
  module _ (slot : ℕ) (g : UnitReference) (low : slot < SLOTS)
      (is : HasRole h.order h.file slot role.Empty) (asks : Asks h slot g) (a : Asked h g) where
    is_left_there : (f : Fault) → first_in h ≡ Some f → is_left h slot ≡ true
    is_left_there f e = and_from (is_some (first_in h)) (is_some (request_in h slot))
        (ap (λ (o : Option Fault). is_some o) e) (ap (λ (o : Option Request). is_some o) asks)

    module _ (refused : is_of_host h g.name ≡ true) where
      no_item : HasItem h slot → ⊥
      no_item (inl (r, own, other)) = let both = sym own ∙ is in other (cc)
      no_item (inr (free, (r, wants, not))) =
          let same : request_of g slot ≡ r = same_Some (request_of g slot) r (sym asks ∙ wants) in
          not (subst (λ (r : Request). IsRefusedUnit h r.name) same (refused_unit h g.name refused))

      hide : AddedRead h.order h.file files slot g
          ⊎ (AddedRefused h.order h.file files slot g ⊎ AddedLeft h.order h.file files slot)
          → Hidden slot
      hide (inl (q, e, found, added, wanted, named)) =
          let of : is_of_host h q.name ≡ true = ap (is_of_host h) named ∙ refused in (
            seen_read_is slot q true e (and_from q.added (is_of_host h q.name) added of),
            no_item,
            λ p other. let same = one_found slot q p found other in
                subst (λ (p : Segment). (p.added ≡ true) × IsRefusedUnit h p.name) same
                (added, refused_unit h q.name of),
          )
      hide (inr (inl (f, e, none, more))) = (
        seen_refused_is slot f None e (taken_part h slot g true is asks refused),
        no_item,
        λ q found. none_at slot q _ none found,
      )
      hide (inr (inr (e, none, ended))) = let first = first_after h ended.0 ended.1 in (
        seen_left_is slot true e (is_left_there first.0 first.1)
            ∙ absent_is slot absent.NotLookedFor None (taken_part h slot g true is asks refused),
        no_item,
        λ q found. none_at slot q _ none found,
      )

    module _ (fine : is_of_host h g.name ≡ false) where
      has : HasItem h slot
      has = inr (is, (request_of g slot, asks, not_refused h g.name fine))

      what : SegmentPart
      what = added_by (segments_in h) g.at

      shown : AddedRead h.order h.file files slot g
          ⊎ (AddedRefused h.order h.file files slot g ⊎ AddedLeft h.order h.file files slot)
          → Shown slot
      unfolding what
      shown (inl (q, e, found, added, wanted, named)) = show_read slot q
          (seen_read_is slot q false e (and_right q.added (is_of_host h q.name)
          (ap (is_of_host h) named ∙ fine))) found has
          (added_read_part h slot g q is asks a wanted added named)
      shown (inr (inl (f, e, none, more))) = show_absent slot what (why_refused (entry_in h slot) f)
          (seen_refused_is slot f (Some what) e (taken_part h slot g false is asks fine)) none has
          (refused_kind slot what f low e (added_part h slot g is asks a)
          (λ _. (request_of g slot, asks)))
      shown (inr (inr (e, none, ended))) = let first = first_after h ended.0 ended.1 in
          show_absent slot what absent.NotLookedFor
          (seen_left_is slot true e (is_left_there first.0 first.1)
          ∙ absent_is slot absent.NotLookedFor (Some what) (taken_part h slot g false is asks fine))
          none has (of_left slot what first.0 (request_of g slot) e (added_part h slot g is asks a) asks
          first.1)

  at_slot : (slot : ℕ) → slot < SLOTS → Shown slot ⊎ Hidden slot
  at_slot slot low = by (role_of (entry_at h.order h.file slot)) refl
    where
      empty : HasRole h.order h.file slot role.Empty → EmptyRead h.order h.file files slot
          → Shown slot ⊎ Hidden slot
      empty is (inl (g, (asks, there), t)) = let a = asked h.order h.file files g there in
          elim (cases_Bool (is_of_host h g.name)) [
            | inl refused ↦ inr (hide slot g low is asks a refused t)
            | inr fine ↦ inl (shown slot g low is asks a fine t)
          ]
      empty is (inr t) = inr (unread_slot slot t no_item)
        where
          no_item : HasItem h slot → ⊥
          no_item (inl (r, own, other)) = let both = sym own ∙ is in other (cc)
          no_item (inr (free, (r, wants, not))) = none-some r (sym t.2 ∙ wants)

      by : (q : Result Role Reason) → role_of (entry_at h.order h.file slot) ≡ q
          → Shown slot ⊎ Hidden slot
      by (Ok role.Empty) is = empty is (empty_read h.order h.file files slot low is)
      by (Ok r) is = inl (own_slot slot r low is (λ same. absurd (cc)))
      by (Err why) is = inr (unread_slot slot (refused_read h.order h.file files slot why low is) no_item)
        where
          no_item : HasItem h slot → ⊥
          no_item (inl (r, own, other)) = let both = sym own ∙ is in absurd (cc)
          no_item (inr (free, more)) = let both = sym free ∙ is in absurd (cc)

  -- the unit for which no slot is left
  abbrev Last : Seen → Type 0
  Last s = IsUnplaced h s × (s.origin ≡ Err absent.Unplaced)

  abbrev unit_item : UnitReference → Seen
  unit_item g = item None g.name (added_by (segments_in h) g.at) (Err absent.Unplaced)

  last_item : (g : UnitReference) → IsNext h g → is_of_host h g.name ≡ false → Last (unit_item g)
  last_item g next fine = let t = is_with None g.name (added_by (segments_in h) g.at)
      (Err absent.Unplaced) in (
        record {
          unit = g;
          next = next;
          other = not_refused h g.name fine;
          slot = t.slot_is;
          name = t.name_is;
          part = rw t.part_is (of_record h g (asked h.order h.file files g
              (length (empty_slots h.order h.file), next)));
          nowhere = is_nowhere None g.name (added_by (segments_in h) g.at) absent.Unplaced (unit_item g) t;
        },
        t.origin_is,
      )

  unplaced_is : (o : Option UnitReference)
      → slice_get (requests_in h) (length (empty_slots h.order h.file)) ≡ o
      → unplaced h ≡ option_and_then (seen_unit h) o
  unfolding unplaced
  unplaced_is o e = ap (option_and_then (seen_unit h)) e

  unit_is : (g : UnitReference) (b : Bool) → IsNext h g → is_of_host h g.name ≡ b
      → unplaced h ≡ (if b then None else Some (unit_item g))
  unit_is g b next e = unplaced_is (Some g) next
      ∙ ap (λ (b : Bool). if b then None else Some (unit_item g)) e

  next_item : (g : UnitReference) → IsNext h g
      → ((s : Seen) × (unplaced h ≡ Some s) × Last s) ⊎ IsRefusedUnit h g.name
  next_item g next = elim (cases_Bool (is_of_host h g.name)) [
    | inl refused ↦ inr (refused_unit h g.name refused)
    | inr fine ↦ inl (unit_item g, unit_is g false next fine, last_item g next fine)
  ]

  last_is : (s : Seen) → unplaced h ≡ Some s → Last s
  last_is s e = by (slice_get (requests_in h) (length (empty_slots h.order h.file))) refl
    where
      by : (o : Option UnitReference)
          → slice_get (requests_in h) (length (empty_slots h.order h.file)) ≡ o → Last s
      by None none = absurd (none-some s (sym (unplaced_is None none) ∙ e))
      by (Some g) next = elim (cases_Bool (is_of_host h g.name)) [
        | inl refused ↦ absurd (none-some s (sym (unit_is g true next refused) ∙ e))
        | inr fine ↦ subst Last (same_Some (unit_item g) s (sym (unit_is g false next fine) ∙ e))
            (last_item g next fine)
      ]

  -- all of them
  abbrev placed : List Seen
  placed = filter_map seen_at slots

  abbrev list : List Seen
  list = placed ++ cons_option (unplaced h) []

  -- an item is that of a slot, or the last
  abbrev Place : ℕ → Seen → Type 0
  Place i s = ((k : ℕ) × (k < SLOTS) × (seen_at k ≡ Some s) × (slice_get placed i ≡ Some s))
      ⊎ (Last s × (length placed ≡ i))

  place : (i : ℕ) (s : Seen) → slice_get list i ≡ Some s → Place i s
  place i s e = elim (of_joined placed (cons_option (unplaced h) []) i s e) [
    | inl here ↦ (let t = of_kept seen_at 0 SLOTS i s here in
        inl (t.0, omega (arith, t.2), t.3, here))
    | inr there ↦ (let t = of_option (unplaced h) there.0 s there.2 in
        inr (last_is s t.0, omega (arith, there.1, t.1)))
  ]

  -- what holds of the item of each slot
  abbrev Facts : ℕ → Seen → Type 0
  Facts slot s = (s.slot ≡ Some slot) × HasItem h slot × Kind s

  facts : (slot : ℕ) (s : Seen) → slot < SLOTS → seen_at slot ≡ Some s → Facts slot s
  facts slot s low e = elim (at_slot slot low) [
    | inl t ↦ subst (Facts slot) (same_Some t.0 s (sym t.1 ∙ e)) (t.2, t.3, t.4)
    | inr t ↦ absurd (none-some s (sym t.0 ∙ e))
  ]

  in_list : (slot : ℕ) (s : Seen) → slot < SLOTS → seen_at slot ≡ Some s → In s list
  in_list slot s low e =
      let t = in_kept seen_at 0 SLOTS slot s (omega arith) (omega (arith, low)) e in
      (t.0, at_left placed (cons_option (unplaced h) []) t.0 s t.1)

  last_there : (s : Seen) → unplaced h ≡ Some s → In s list
  last_there s e = (
    length placed + 0,
    right_at placed (cons_option (unplaced h) []) 0
        ∙ ap (λ (o : Option Seen). slice_get (cons_option o []) 0) e,
  )

  no_slot : (s : Seen) (m : ℕ) → s.slot ≡ None → s.slot ≡ Some m → ⊥
  no_slot s m none some = none-some m (sym none ∙ some)

  ordered : (i j : ℕ) (s t : Seen) → i < j → Place i s → Place j t
      → (k : ℕ) × (s.slot ≡ Some k) × (k < SLOTS) × ((m : ℕ) → t.slot ≡ Some m → k < m)
  ordered i j s t less (inl (k, low, is, here)) (inl (n, high, it, there)) =
      let w = rising seen_at 0 SLOTS i j s t less here there in
      let bound : w.1 < SLOTS = omega (arith, w.5) in
      let first : w.0 < SLOTS = omega (arith, w.4, bound) in (
        w.0,
        (facts w.0 s first w.2).0,
        first,
        λ m at.
            let same = same_Some w.1 m (sym (facts w.1 t bound w.3).0 ∙ at) in
            omega (arith, w.4, same),
      )
  ordered i j s t less (inl (k, low, is, here)) (inr (it, there)) =
      (k, (facts k s low is).0, low, λ m at. absurd (no_slot t m it.0.slot at))
  ordered i j s t less (inr (is, here)) (inl (n, high, it, there)) =
      absurd (omega (arith, less, here, slice_get_within placed j t there))
  ordered i j s t less (inr (is, here)) (inr (it, there)) = absurd (omega (arith, less, here, there))

  has_slot : (i slot : ℕ) (s : Seen) → Place i s → s.slot ≡ Some slot
      → (slot < SLOTS) × HasItem h slot
  has_slot i slot s (inl (k, low, is, here)) e =
      let t = facts k s low is in
      let same = same_Some k slot (sym t.0 ∙ e) in
      subst (λ (k : ℕ). (k < SLOTS) × HasItem h k) same (low, t.1)
  has_slot i slot s (inr (last, here)) e = absurd (no_slot s slot last.0.slot e)

  each_slot : (slot : ℕ) → slot < SLOTS → HasItem h slot
      → SomeItem list (λ i s. s.slot ≡ Some slot)
  each_slot slot low has_one = elim (at_slot slot low) [
    | inl t ↦ (let at = in_list slot t.0 low t.1 in (at.0, t.0, at.1, t.2))
    | inr t ↦ absurd (t.1 has_one)
  ]

  each_read : (k : ℕ) (q : Segment) → slice_get (segments_in h) k ≡ Some q
      → SomeItem list (λ i s. IsOfSegment h s q) ⊎ ((q.added ≡ true) × IsRefusedUnit h q.name)
  each_read k q e = let f = segment_found h.order h.file files k q e in
      elim (at_slot q.slot f.0) [
        | inl t ↦ (let at = in_list q.slot t.0 f.0 t.1 in inl (at.0, t.0, at.1, t.5 q f.1))
        | inr t ↦ inr (t.2 q f.1)
      ]

  each_next : (g : UnitReference) → IsNext h g
      → SomeItem list (λ i s. IsUnplaced h s) ⊎ IsRefusedUnit h g.name
  each_next g next = elim (next_item g next) [
    | inl t ↦ (let at = last_there t.0 t.1 in inl (at.0, t.0, at.1, t.2.0))
    | inr refused ↦ inr refused
  ]

  -- what an item is of, by where it comes from
  abbrev OfOrigin : Seen → Result Origin Absent → Type 0
  OfOrigin s (Ok o) = SomeItem (segments_in h) (λ k q. IsOfSegment h s q)
      ⊎ IsOfEntry host libs h s o
  OfOrigin s (Err absent.Missing) = IsOfMissing h s
  OfOrigin s (Err absent.NotLookedFor) = IsLeft h s
  OfOrigin s (Err absent.Unplaced) = IsUnplaced h s
  OfOrigin s (Err (absent.Refused f)) = ⊥

  of_kind : (s : Seen) → Kind s → OfOrigin s s.origin
  of_kind s (inl t) = subst (OfOrigin s) (sym t.3.origin) (inl t)
  of_kind s (inr (inl t)) = subst (OfOrigin s) (sym t.1) (inr t.2)
  of_kind s (inr (inr (inl t))) = subst (OfOrigin s) (sym t.0) t.1
  of_kind s (inr (inr (inr t))) = subst (OfOrigin s) (sym t.0) t.1

  of_place : (i : ℕ) (s : Seen) (r : Result Origin Absent) → Place i s → s.origin ≡ r
      → OfOrigin s r
  of_place i s r (inl (k, low, is, here)) e =
      subst (OfOrigin s) e (of_kind s (facts k s low is).2)
  of_place i s r (inr (last, here)) e = subst (OfOrigin s) (sym last.1 ∙ e) last.0

  without : (i : ℕ) (s : Seen) → Place i s → s.slot ≡ None → s.origin ≡ Err absent.Unplaced
  without i s (inl (k, low, is, here)) e = absurd (no_slot s k e (facts k s low is).0)
  without i s (inr (last, here)) e = last.1

  are_seen : AreSeen host libs h (seen_of host libs h)
  unfolding seen_of
  are_seen = record {
    by_slot = λ i j s t less e u. ordered i j s t less (place i s e) (place j t u);
    each_slot = each_slot;
    of_slot = λ i slot s e is. has_slot i slot s (place i s e) is;
    read = each_read;
    next = each_next;
    from = λ i s o e is. of_place i s (Ok o) (place i s e) is;
    missing = λ i s e is. of_place i s (Err absent.Missing) (place i s e) is;
    left = λ i s e is. of_place i s (Err absent.NotLookedFor) (place i s e) is;
    unplaced = λ i s e is. of_place i s (Err absent.Unplaced) (place i s e) is;
    without_slot = λ i s e is. without i s (place i s e) is;
    refused = λ i s f e is. of_place i s (Err (absent.Refused f)) (place i s e) is;
  }

pub all_seen : (host : List ℕ) (libs : List (List ℕ)) (h : HostFiles)
    → opened_host host libs ≡ Ok h → AreSeen host libs h (seen_segments host libs)
all_seen host libs h e = subst (λ (r : Result HostFiles Reason). AreSeen host libs h
    (seen_by host libs r)) (sym e) (are_seen host libs h e)
