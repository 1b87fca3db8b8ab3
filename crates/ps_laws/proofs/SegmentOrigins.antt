-- Where no fault applies, the segments of a link have the origins that are said plainly.
use Rattle.ps_laws.proofs.Vocabulary.{◌≢◌, false≢true, request_fault, UnitReference, ◌⊎◌, slice_get, or_parts, request_of, NoneStands, role_fault, range_with_len, option_map_or, added_segments, request_by_slot, option_map, result_err, added_fault, segments_of, unit_source, option_or, result_ok, IsOfRound, IsSegment, source_of, entry_at, role_of, code_of, SomeItem, IsOfFile, is_empty, order_of, Request, HasRole, reading, Segment, file_at, is_role, IsGiver, Entry, Role, Record, IsFile, RequestsAt, in_slot, Order, Reason, ◌≡◌, ℕ, zero, suc, ◌+◌, ◌<◌, ◌≤◌, List, [], ◌∷◌, ◌++◌, take, Some, None, Result, Ok, true, false, refl, sym, ap, subst, ◌∙◌, inl, inr, arith, ◌↔◌, All, ltb, ltb-false, some_pair_parts, is_nameless, reading_fault, IsOfSlot, Spells, own_segments, IsOwn, IsAddedUnit, IsInPlace, IsUnitOf, IsSliceOf, IsReadFrom, HaveOneEach, AreBySlot, AreOwn, AreAdded, AreInPlace, AreOfLibraries, AreRead, AreOfRounds, IsTaken, RequestsName, HasSlot, map_none, request_parts, own_known, round_known, rounds_fine, slots_fine, sources_fine, none_at, in_empty, FIRST_ADDED, MAX_ADDED, SLOTS}
use Rattle.ps_resolve.specs.Added.{added_at, segments, empty_slots, requested_units}
use Rattle.ps_codefile.specs.declared.entry.Role.TheVariants as role
use Rattle.ps_resolve.specs.Faults.{slot_reason, slots_fault, sources_fault}
use Rattle.ps_lists.proofs.Items.{In, all_items, in_range, in_filter, of_take, some_before}
use Rattle.ps_laws.proofs.OfLink.{of_link}
use Rattle.ps_resolve.proofs.ReadingCodes.{whole_code}
use Rattle.ps_laws.proofs.Sources.{OneStop}
use Rattle.ps_laws.proofs.Looking.{is_there}
use Rattle.ps_laws.proofs.Segments.{own_in_slot, Ascends, ascend}
use Rattle.ps_laws.proofs.RequestedUnits.{empty_slot, empty_ascend, found_added, in_segments, own_at}
use Rattle.ps_laws.proofs.AddedUnits.{both_none, has_own, given, units_are, split_at}
use Rattle.ps_laws.proofs.Whole.{unread}
use Rattle.ps_laws.proofs.OneName.{of_segments}
use Rattle.ps_laws.proofs.UnitPlaces.{unit_of}

-- what is read is the only spelling: the law of link information
abbrev pub OneSpelling : Type 0
OneSpelling = (order : Order) (bytes : List ℕ) (rs : List Record)
    → Spells order bytes rs ↔ (reading order bytes ≡ (rs, None))

-- 1. a segment and its source
-- a code with which nothing is wrong is the slice of its file that the entry reports
slice_of : (file : List ℕ) (e : Entry) (code : List ℕ) → code_of file e ≡ Ok code
    → IsSliceOf file e code
slice_of file e code h = grind (arith, whole_code, ltb, ltb-false)

-- what is read of a segment's entry
read_from : OneSpelling → (order : Order) (host : List ℕ) (libs : List (List ℕ)) (s : Segment)
    → IsFile host libs s.file (file_at host libs s.file) → s.index < SLOTS
    → IsOfFile order host libs s → IsReadFrom order host libs s
read_from law order host libs s there inside h = record {
  source = file_at host libs s.file;
  file = there;
  within = inside;
  code = h.code;
  slice = slice_of _ (entry_at order _ s.index) s.code h.code;
  tables = h.kept;
  block = h.block;
  records = λ l. (law order _ s.records).1 (h.records l);
  unread = h.unread;
}

-- 2. slots ascend
abbrev Rises : List Segment → Type 0
Rises segs = (i j : ℕ) (s q : Segment) → i < j → slice_get segs i ≡ Some s
    → slice_get segs j ≡ Some q → s.slot < q.slot

-- no segment of a list whose slots ascend has a slot below the start
lowest : (from : ℕ) (segs : List Segment) → Ascends from segs → (j : ℕ) (q : Segment)
    → slice_get segs j ≡ Some q → from ≤ q.slot
lowest from [] a j q e = absurd (cc)
lowest from (s ∷ ss) a zero q e = grind arith
lowest from (s ∷ ss) a (suc j) q e = grind (arith, lowest (s.slot + 1) ss a.1 j q e)

-- where slots ascend, a later segment has a greater slot
rises : (from : ℕ) (segs : List Segment) → Ascends from segs → Rises segs
rises from [] a i j s q l e u = absurd (cc)
rises from (x ∷ xs) a i zero s q l e u = absurd (omega (arith, l))
rises from (x ∷ xs) a zero (suc j) s q l e u = grind (arith, lowest)
rises from (x ∷ xs) a (suc i) (suc j) s q l e u = grind (arith, rises (x.slot + 1) xs a.1 i j s q)

-- where later segments have greater slots, no two places have the same slot
one_place : (segs : List Segment) → Rises segs → (i j : ℕ) (s q : Segment) → slice_get
    segs i ≡ Some s → slice_get segs j ≡ Some q → s.slot ≡ q.slot → i ≡ j
one_place segs r i j s q e u same = grind arith

-- 3. what is known of each segment of a link
-- the test of an empty slot passes just where its role is Empty, and a role that gives no error is
empty_is : (o : Result Role Reason) → option_map_or is_empty (result_ok o) false ≡ true
    → o ≡ Ok role.Empty
empty_is o h = grind arith

role_is : (o : Result Role Reason) → result_err o ≡ None → (r : Role) × (o ≡ Ok r)
role_is o h = grind arith

-- where a segment of this role is from
abbrev HasPlace : Order → List ℕ → List (List ℕ) → Segment → Type 0
HasPlace order host libs s = (s.role ≢ role.Wanted → IsInPlace s)
    × (s.role ≡ role.Wanted → IsUnitOf order host libs s.name s.file s.index)

record HasOrigin (order : Order) (host : List ℕ) (libs : List (List ℕ)) (s : Segment) : Type 0
  where
    read : IsReadFrom order host libs s
    place : HasPlace order host libs s
    own : s.added ≡ false → IsOwn order host s
    added_unit : s.added ≡ true → IsAddedUnit order host (segments order host libs) s
    round : s.added ≡ true → SomeItem (added_segments order host libs) (λ k q. q ≡ s)

module _ (law : OneStop) (spells : OneSpelling) (host : List ℕ) (libs : List (List ℕ))
    (none : NoneStands host libs) where
  abbrev order : Order
  order = order_of host

  no_fault : reading_fault host libs ≡ None
  no_fault = unread law host libs (λ step f r h. none step f h)

  fine : (sources_fault order host libs ≡ None) × (added_fault order host libs ≡ None)
  fine = (sources_fine host libs no_fault, rounds_fine host libs no_fault)

  -- a unit in the libraries
  module _ (s : Segment) (h : IsOfFile order host libs s) where
    of_unit : (q : Request) → q.name ≡ s.name → request_fault order host libs q ≡ None
        → unit_source order s.name libs ≡ Some (s.file, s.index)
        → IsUnitOf order host libs s.name s.file s.index × IsReadFrom order host libs s
    of_unit q name fits source =
        let unit = rw name at (unit_of order host libs q (s.file, s.index) fits (rw name source)) in
        let file : IsFile host libs s.file (file_at host libs s.file) =
        (let e = unit.file in grind arith) in
        (unit, read_from spells order host libs s file unit.within h)

    -- a slot's own segment
    of_slot : s.slot < SLOTS → IsOfSlot order host libs s → HasOrigin order host libs s
    of_slot inside known = by s.role refl known.source known.fits
      where
        made : IsReadFrom order host libs s → HasPlace order host libs s → s.role ≢ role.Empty
            → HasOrigin order host libs s
        made read place filled =
            let own : IsOwn order host s =
            record { role = known.role; filled = filled; name = known.name } in
            grind arith

        by : (r : Role) → s.role ≡ r
            → source_of order host libs s.slot r ≡ Some (s.file, s.index)
            → role_fault order host libs s.slot r ≡ None → HasOrigin order host libs s
        by role.Empty is source fits = absurd (cc)
        by role.Wanted is source fits =
            let u = of_unit (request_by_slot order host s.slot) (sym known.name) fits
            (rw known.name source) in
            made u.1 (λ x. absurd (x is), λ w. u.0) (λ e. let a = sym is ∙ e in cc)
        by other is source fits =
            let at = some_pair_parts 0 s.file s.slot s.index source in
            made (read_from spells order host libs s (let e = at.0 in grind arith)
            (let e = at.1 in omega (arith, e, inside)) h)
            (λ x. (sym at.0, sym at.1), λ w. absurd (let a = sym is ∙ w in cc))
            (λ e. let a = sym is ∙ e in cc)

  -- a segment of the host's own slots, or an added one, is a segment of the link
  own_listed : (k : ℕ) (s : Segment) → slice_get (own_segments order host libs) k ≡ Some s
      → In s (segments order host libs)
  own_listed k s e =
      let o = own_at order host libs s (k, e) in
      in_segments order host libs o.0 s o.1 (rw o.2 refl)

  added_listed : (k : ℕ) (s : Segment) → slice_get (added_segments order host libs) k ≡ Some s
      → In s (segments order host libs)
  added_listed k s e =
      let b = (empty_slot order host k s.slot (in_empty order host libs k s e)).1 in
      in_segments order host libs s.slot s (omega (arith, b)) (found_added order host libs k s e)

  module _ (j : ℕ) (s : Segment) (in_round : slice_get (added_segments order host libs) j
      ≡ Some s) where
    -- the slot of each round is the next empty one
    rises_with : (i : ℕ) (x y : ℕ) → x < y → slice_get (empty_slots order host) i ≡ Some x
        → slice_get (empty_slots order host) j ≡ Some y → i < j
    rises_with i x y lt e u = grind (arith, empty_ascend order host j i y x)

    is_empty_slot : (slot : ℕ) → FIRST_ADDED ≤ slot → slot < SLOTS
        → HasRole order host slot role.Empty
        → In slot (empty_slots order host)
    unfolding empty_slots
    is_empty_slot slot low high has = in_filter (is_role is_empty order host)
        (range_with_len FIRST_ADDED MAX_ADDED) slot
        (in_range FIRST_ADDED MAX_ADDED slot low (omega (arith, high)))
        (ap (λ (o : Result Role Reason). option_map_or is_empty (result_ok o) false) has)

    none_left : (slot : ℕ) → FIRST_ADDED ≤ slot → slot < s.slot
        → HasRole order host slot role.Empty → IsTaken (segments order host libs) slot
    none_left slot low lt has =
        let at = in_empty order host libs j s in_round in
        let b = (empty_slot order host j s.slot at).1 in
        let i = is_empty_slot slot low (omega (arith, b, lt)) has in
        let before = rises_with i.0 slot s.slot lt i.1 at in
        let q = is_there _ (some_before _ i.0 j s (omega (arith, before)) in_round) in
        let l = added_listed i.0 q.0 q.1 in
        (l.0, q.0, l.1, (let u = in_empty order host libs i.0 q.0 q.1 in let v = i.1 in cc))

    -- what requests it was there in its round
    requested_before : (g : UnitReference)
        → slice_get (requested_units order host libs (take j (added_segments order host libs))) j
        ≡ Some g → s.name ≡ g.name → SomeItem (segments order host libs)
        (λ k q. ((q.added ≡ false) ⊎ (q.slot < s.slot)) × RequestsName q s.name)
    requested_before g earlier name =
        elim (split_at (own_segments order host libs)
        (take j (added_segments order host libs)) giver.0 requests.0 requests.1) [
          | inl h ↦
              let o = own_at order host libs requests.0 (giver.0, h) in
              let l = own_listed giver.0 requests.0 h in
              let mark = (own_known order host libs fine.0 o.0 requests.0 o.1 o.2).1.not_added in
              (l.0, requests.0, l.1, (inl mark, requesting))
          | inr t ↦
              let u = of_take j (added_segments order host libs) t.0 requests.0 t.2 in
              let l = added_listed t.0 requests.0 u.1 in
              let a = in_empty order host libs t.0 requests.0 u.1 in
              let b = in_empty order host libs j s in_round in
              let less = empty_ascend order host t.0 j requests.0.slot s.slot u.0 a b in
              (l.0, requests.0, l.1, (inr less, requesting))
        ]
      where
        giver : (i : ℕ)
            × IsGiver (own_segments order host libs ++ take j (added_segments order host libs)) i g
        giver = given order host libs (take j (added_segments order host libs)) j g earlier

        requests : RequestsAt
            (own_segments order host libs ++ take j (added_segments order host libs))
            giver.0 g.at.rec g.name
        requests = giver.1.1

        requesting : RequestsName requests.0 s.name
        requesting = (g.at.rec, requests.2, requests.3, (requests.4, requests.5 ∙ sym name))

    -- the name that is looked up in that round
    of_round : (g : UnitReference) → IsOfRound order host libs j g s
        → HasOrigin order host libs s
    of_round g known = record {
      read = u.1;
      place = (λ h. absurd (h known.role), λ h. u.0);
      own = λ e. absurd (false≢true (sym e ∙ known.is_added));
      added_unit = λ e. unit_added;
      round = λ e. (j, s, in_round, refl);
    }
      where
        u : IsUnitOf order host libs s.name s.file s.index × IsReadFrom order host libs s
        u = of_unit s (round_known order host libs j g s known) (request_of g s.slot)
            (sym known.name) known.fits known.source

        unit_added : IsAddedUnit order host (segments order host libs) s
        unit_added =
            let at = empty_slot order host j s.slot known.slot in
            let parts = request_parts order host libs (request_of g s.slot) known.fits in
            let units = units_are order host libs fine.0 fine.1 in record {
              empty = empty_is (role_of (entry_at order host s.slot)) at.2;
              low = at.0;
              next = none_left;
              role = known.role;
              requested = requested_before g known.earlier known.name;
              named = ap is_nameless known.name ∙ (or_parts (is_nameless g.name) _ parts.0).0;
              free = λ h. (units.requested j g known.requested).1
                  (subst (λ (n : List ℕ). HasSlot order host n) known.name h);
            }

  -- each segment of a link has a known origin
  known : (s : Segment) → IsSegment order host libs s → HasOrigin order host libs s
  known s t =
      let link = of_link host libs no_fault s t in
      elim link.requested [
        | inl own ↦ of_slot s link.file link.slot own
        | inr r ↦ of_round r.0 s r.2.there r.1 r.2
      ]

  each : (P : Segment → Type 0) → ((s : Segment) → HasOrigin order host libs s → P s)
      → All P (segments_of host libs)
  each P h = all_items P _ (λ k s e. h s (known s (of_segments order host libs k s e)))

  pub own : AreOwn host (segments_of host libs)
  own = each _ (λ s k. k.own)

  pub added_ones : AreAdded host (segments_of host libs)
  added_ones = each _ (λ s k. k.added_unit)

  pub rounds : AreOfRounds host libs (segments_of host libs)
  rounds = (
    each _ (λ s k. k.round),
    all_items (λ (s : Segment). SomeItem (segments_of host libs) (λ k q. q ≡ s)) _
        (λ k s e. let l = added_listed k s e in (l.0, s, l.1, refl)),
  )

  pub in_place : AreInPlace (segments_of host libs)
  in_place = each _ (λ s k. k.place.0)

  pub of_libraries : AreOfLibraries host libs (segments_of host libs)
  of_libraries = each _ (λ s k. k.place.1)

  pub all_read : AreRead host libs (segments_of host libs)
  all_read = each _ (λ s k. k.read)

  -- 4. each slot that is not empty has a segment
  has_role : (slot : ℕ) → slot < SLOTS → (r : Role) × HasRole order host slot r
  unfolding slots_fault
  has_role slot inside = role_is _ (both_none _ _ (map_none _ _ (none_at (λ n. option_map (in_slot
      0 n) (slot_reason order host n)) 0 SLOTS slot (slots_fine host libs no_fault) (omega arith)
      (omega (arith, inside))))).0

  pub one_each : HaveOneEach host (segments_of host libs)
  one_each slot inside filled =
      let r = has_role slot inside in
      let s = has_own order host libs fine.0 slot inside r.0 r.1 (λ e. filled (subst (λ x. HasRole
      order host slot x) e r.1)) in
      let i = in_segments order host libs slot s.0 inside (ap (λ x. option_or x (added_at order
      host libs slot)) s.1) in
      let at = own_in_slot order host libs slot s.0 s.1 in
      let segs = segments order host libs in
      let only = one_place segs (rises 0 segs (ascend order host libs)) in
      (i.0, s.0, i.1, (at, λ other q e same. only other i.0 q s.0 e i.1 (same ∙ sym at)))

-- the segments of a link are by slot, and each slot is below SLOTS
pub by_slot : (host : List ℕ) (libs : List (List ℕ)) → AreBySlot (segments_of host libs)
by_slot host libs = (
  rises 0 (segments_of host libs) (ascend (order_of host) host libs),
  all_items _ _ (λ k s e. (of_segments (order_of host) host libs k s e).0),
)
