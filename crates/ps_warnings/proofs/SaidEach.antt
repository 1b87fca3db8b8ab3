-- Whatever is so is said by a finding about the link.
use Rattle.std.proofs.Common.{◌≡◌, ◌∙◌, ◌+◌, ◌*◌, ◌<◌, ℕ, Bool, true, false, List, ◌++◌, Option, Some, None, refl, subst, sym, arith}
use Rattle.std.specs.Prelude.{◌⊎◌, ◌==◌, Ok, slice_get, take, unwrap_or}
use Rattle.std.specs.List.{list_any}
use Rattle.std.proofs.Math.Nat.{zero-add}
use Rattle.std.proofs.lemmas.Bool.{and_from, eq-eqb, false_from_ne_true, lt-ltb}
use Rattle.ps_codefile.specs.Dictionary.{OpenedFile, entry_at, is_filled, opened_alone, role_of, slots}
use Rattle.ps_codefile.specs.declared.dictionary_layout.TheConstants.{SLOTS}
use Rattle.ps_codefile.specs.declared.entry.Entry.{Entry}
use Rattle.ps_codefile.specs.declared.entry.Role.TheVariants as role
use Rattle.ps_linkinfo.specs.Numbered.{numbered_records}
use Rattle.ps_linkinfo.specs.declared.record.LinkRecord.{LinkRecord as Record}
use Rattle.std.proofs.lemmas.Option.{same_Some}
use Rattle.ps_resolve.specs.Standing.Phrases.{SomeItem}
use Rattle.ps_lists.proofs.Items.{FirstUpTo, In, at_range, in_find, in_front, in_left, in_map, in_right, of_any, of_map, of_range}
use Rattle.ps_check_segments.specs.Paths.{path_of}
use Rattle.ps_check_segments.specs.Seen.{Seen, has_slot}
use Rattle.ps_check_segments.specs.SegmentParts.{is_added, is_unit}
use Rattle.ps_filetype.specs.Names.{is_respelled}
use Rattle.ps_warnings.specs.Searches.AllFindings.{findings_of_unit}
use Rattle.ps_warnings.specs.Searches.EntryFindings.{shares}
use Rattle.ps_warnings.specs.Searches.FileFindings.{definition_findings, extent_at, findings_of_records}
use Rattle.ps_warnings.specs.SegmentSizes.{data_size}
use Rattle.ps_warnings.specs.Found.{Stated, found_at, found_in_record, is_about_link}
use Rattle.ps_warnings.specs.Searches.LinkFindings.{is_near_unit, other_spelling, taken_by}
use Rattle.ps_warnings.specs.Searches.RecordFindings.{end_mark, first_above, first_definition, first_past, first_public, is_missed, low_mark}
use Rattle.ps_warnings.specs.Warned.{IsEndMark, IsFoundUpTo, IsHigh, IsOwnDefinition, IsPast, IsPastMark, IsRespelled, IsVariable, names_segment}
use Rattle.ps_warnings.specs.WarnedFiles.{AreSaid, FileSegment, IsAt, IsLinkedFrom, IsLookedAt, IsMet, IsSaidBy, IsSo, IsUpTo, Says, Share, entry_of}
use Rattle.ps_warnings.specs.declared.finding.EntryFinding.TheVariants as entry
use Rattle.ps_warnings.specs.declared.finding.Finding.{Finding}
use Rattle.ps_warnings.specs.declared.finding.Finding.TheVariants as which
use Rattle.ps_warnings.specs.declared.finding.LinkFinding.TheVariants as link
use Rattle.ps_warnings.specs.declared.finding.RecordFinding.TheVariants as finding
use Rattle.ps_warnings.specs.declared.findings.extents.Extent.{Extent}
use Rattle.ps_warnings.proofs.Extents.{HasExtent, HasNone, extent_is, extent_with, inside}
use Rattle.ps_warnings.proofs.FoundAt.{in_found_at, in_in_record, made}
use Rattle.ps_warnings.proofs.InFiles.{extents_in, in_empty, in_extent, in_segment, in_unit, met, of_all, of_extent}
use Rattle.ps_warnings.proofs.Said.{all_so, has_slot_is, has_some, is_met, met_is, missed_met, shares_parts}
use Rattle.ps_warnings.proofs.Slots.{in_slot, of_host, of_unit as of_definitions}
use Rattle.ps_warnings.proofs.Warned.{end_mark_there, high_each, high_found, low_each, overlap_each, past_each, past_found}
use Rattle.ps_warnings.proofs.WarnedPublics.{definition_each, definition_found, mark_each, mark_found, missed_own, own_each, own_found}
use Rattle.ps_warnings.proofs.WarnedSlots.{empty_each, respelled_each, taken_each}

-- 1. what is one, and what is not there
one_mark : (rs : List Record) (n m : ℕ) → IsEndMark rs n → IsEndMark rs m → n ≡ m
one_mark rs n m a b = same_Some n m (sym (end_mark_there rs n a) ∙ end_mark_there rs m b)

free_slot : (e : Entry) → role_of e ≡ Ok role.Empty → is_filled e ≡ false
free_slot e h = grind arith

extent_place : (f : OpenedFile) (slot : ℕ) → slot < SLOTS
    → slice_get (extents_in f) slot ≡ Some (extent_at f.order f.file slot)
extent_place f slot below = rw zero-add at
    (in_map (extent_at f.order f.file) slots slot (0 + slot) (at_range 0 SLOTS slot below))

module _ (paths : List (List ℕ)) (host : List ℕ) (libs : List (List ℕ)) (list : List Seen)
    (thing : Stated) where
  abbrev All : List Stated
  All = of_all paths host libs list

  abbrev Said : Type 0
  Said = SomeItem All (λ k s. IsSaidBy thing s)

  said_at : (q : Finding) → thing.finding ≡ q → (path : List ℕ) (segment : Option (List ℕ))
      (rec up : Option ℕ) (f : Finding) → IsAt thing path segment rec → IsUpTo up rec
      → Says q f → In (made path segment up f) All → Said
  said_at q e path segment rec up f at before says t = (
    t.0,
    made path segment up f,
    t.1,
    record {
      path = sym at.path;
      segment = sym at.segment;
      rec = subst (λ (r : Option ℕ). IsUpTo up r) (sym at.rec) before;
      says = subst (λ (z : Finding). Says z f) (sym e) says;
    },
  )

  -- 2. of a segment
  module _ (g : FileSegment) (is : IsLinkedFrom host libs g) where
    abbrev path : List ℕ
    path = path_of paths g.number

    abbrev segment : Option (List ℕ)
    segment = Some (entry_of g).name

    abbrev host_of : Option (List Record)
    host_of = met paths host libs list g.number (entry_of g).name

    abbrev pasts : List Stated
    pasts = found_in_record path segment (first_past g.code (numbered_records 0 g.records))

    abbrev publics : List Stated
    publics = found_in_record path segment
        (first_public g.code host_of (numbered_records 0 g.records))

    abbrev definitions : List Stated
    definitions = definition_findings path segment host_of (entry_of g).kind
        (data_size g.file.order g.code) g.records

    in_pasts : (s : Stated) → In s pasts → In s All
    unfolding findings_of_records
    in_pasts s t = in_segment paths host libs list s g is
        (in_left (pasts ++ publics) definitions s (in_left pasts publics s t))

    in_publics : (s : Stated) → In s publics → In s All
    unfolding findings_of_records
    in_publics s t = in_segment paths host libs list s g is
        (in_left (pasts ++ publics) definitions s (in_right pasts publics s t))

    in_definitions : (s : Stated) → In s definitions → In s All
    unfolding findings_of_records
    in_definitions s t = in_segment paths host libs list s g is
        (in_right (pasts ++ publics) definitions s t)

    abbrev lows : List Stated
    lows = found_at path segment None
        (low_mark (end_mark g.records) (data_size g.file.order g.code))

    abbrev highs : List Stated
    highs = found_in_record path segment (first_above g.records)

    in_host : (s : Stated) → (entry_of g).kind ≡ 1 → In s (lows ++ highs) → In s All
    in_host s k t = let is = eq-eqb (entry_of g).kind 1 k in in_definitions s (rw of_host t)

    abbrev defined : Bool → List Stated
    defined b = found_in_record path segment
        (first_definition b g.records host_of (numbered_records 0 g.records))

    in_unit_of : (s : Stated) → (entry_of g).kind ≡ 3 → In s (defined true ++ defined false)
        → In s All
    in_unit_of s k t = let is : ((entry_of g).kind == 1) ≡ false = rw k in
        in_definitions s (rw of_definitions t)

    -- by what is found in a record, which is this one or one before it
    by_record : (q : Finding) (o : Option (ℕ × Finding)) (i : ℕ) → thing.finding ≡ q
        → IsAt thing path segment (Some i)
        → ((s : Stated) → In s (found_in_record path segment o) → In s All)
        → (up : IsFoundUpTo o i) → is_about_link up.1 ≡ true → Says q up.1 → Said
    by_record q o i e at into up about says = let there = made path segment (Some up.0) up.1 in
        said_at q e path segment (Some i) (Some up.0) up.1 at up.3 says
        (into there (in_in_record path segment o up.0 up.1 up.2 about))

    each_past : (place d w i : ℕ)
        → thing.finding ≡ which.Record (finding.PastPrivate place d w)
        → IsAt thing path segment (Some i) → IsPast g.code g.records i place d w → Said
    each_past place d w i e at h = let up = past_each g.code g.records i place d w h in
        let r = past_found g.code g.records up.0 up.1 up.2 in
        by_record _ _ i e at in_pasts up (rw r.3) (r.0, r.1, r.2, r.3)

    each_public : (place : ℕ) (name : List ℕ) (d v n i : ℕ) (hs : List Record)
        → thing.finding ≡ which.Record (finding.PastPublic place name d v n)
        → IsAt thing path segment (Some i) → IsMet list g hs
        → IsPastMark g.code hs g.records i place name d v n → Said
    each_public place name d v n i hs e at m h =
        let up = mark_each g.code hs g.records i place name d v n h in
        let r = mark_found g.code hs g.records up.0 up.1 up.2 in
        by_record _ _ i e at (λ s t. in_publics s (rw (met_is list g hs m) t)) up (rw r.5)
        (r.0, r.1, r.2, r.3, rw (one_mark hs r.4 n r.6.9 h.9) at r.5)

    each_low : (next size : ℕ) → thing.finding ≡ which.Record (finding.LowMark next size)
        → IsAt thing path segment None → (entry_of g).kind ≡ 1
        → data_size g.file.order g.code ≡ Some size → IsEndMark g.records next
        → 2 * next < size → Said
    each_low next size e at k sized m lt = said_at _ e _ _ _ _ _ at tt refl (in_host _ k
        (in_left lows highs _ (in_found_at path segment None _ (which.Record (finding.LowMark next size))
        (rw sized (low_each g.records size next m lt)) refl)))

    each_high : (name : List ℕ) (value next i : ℕ)
        → thing.finding ≡ which.Record (finding.HighDefinition name value next)
        → IsAt thing path segment (Some i) → (entry_of g).kind ≡ 1
        → IsEndMark g.records next → IsHigh g.records i name value next → Said
    each_high name value next i e at k m h =
        let up = high_each g.records i name value next m h in
        let r = high_found g.records up.0 up.1 up.2 in
        by_record _ _ i e at (λ s t. in_host s k (in_right lows highs s t)) up (rw r.3)
        (r.2, r.1, rw (one_mark g.records r.0 next r.4 m) at r.3)

    each_own : (name : List ℕ) (i : ℕ) (hs : List Record)
        → thing.finding ≡ which.Record (finding.OwnDefinition name)
        → IsAt thing path segment (Some i) → (entry_of g).kind ≡ 3 → IsMet list g hs
        → IsOwnDefinition hs g.records i name → Said
    each_own name i hs e at k m h = let up = own_each hs g.records i name h in
        let r = own_found hs g.records up.0 up.1 up.2 in
        by_record _ _ i e at (λ s t. in_unit_of s k (in_left (defined true) (defined false) s
        (rw (met_is list g hs m) t))) up (rw r.1) (r.0, r.1)

    each_other : (name : List ℕ) (i : ℕ)
        → thing.finding ≡ which.Record (finding.UnitDefinition name)
        → IsAt thing path segment (Some i) → (entry_of g).kind ≡ 3
        → IsVariable g.records i name
        → ((hs : List Record) → IsMet list g hs → IsOwnDefinition hs g.records i name → ⊥) → Said
    each_other name i e at k v never = let up = definition_each false g.records host_of i name v
        (false_from_ne_true (is_missed g.records host_of name) (λ b.
        let z = missed_met g.records host_of name b in
        never z.0 (is_met list g z.0 z.1) (missed_own z.0 g.records i name v z.2))) in
        let r = definition_found false g.records host_of up.0 up.1 up.2 in
        by_record _ _ i e at (λ s t. in_unit_of s k (in_right (defined true) (defined false) s t))
        up (rw r.1) (r.0, r.1)

  -- 3. of an entry
  module _ (number : ℕ) (f : OpenedFile) (looked : IsLookedAt host libs number f) (slot : ℕ)
      (below : slot < SLOTS) where
    abbrev e : Entry
    e = entry_at f.order f.file slot

    abbrev x : Extent
    x = extent_at f.order f.file slot

    each_empty : (q : Finding) → thing.finding ≡ q → number ≡ 0
        → IsAt thing (path_of paths number) None None → role_of e ≡ Ok role.Empty
        → names_segment e ≡ true → (SomeItem list (λ k s. s.slot ≡ Some slot) → ⊥)
        → Says q (which.Entry (entry.EmptySlot slot e.name e.kind)) → Said
    each_empty q is first at empty named never says =
        let taken = list_any (has_slot slot) list in
        let found = which.Entry (entry.EmptySlot slot e.name e.kind) in
        let free = false_from_ne_true taken (λ b. let a = of_any (has_slot slot) list b in
        never (a.0, a.1, a.2, has_slot_is slot a.1 a.3)) in
        said_at q is _ _ _ _ found at tt says
        (in_empty paths host libs list _ number f slot first looked below (free_slot e empty)
        (in_found_at (path_of paths number) None None _ found
        (rw empty (empty_each slot taken e free named)) refl))

    overlap_first : (other : ℕ) (own : x.slot ≡ slot) → thing.finding
        ≡ which.Entry (entry.Overlap other)
        → IsAt thing (path_of paths number) (Some e.name) None
        → FirstUpTo (shares x) (extents_in f) other → Said
    overlap_first other own is at (j, o, found, there, sharing, le) =
        let path = path_of paths number in
        let q = which.Entry (entry.Overlap o.slot) in
        let from = of_map (extent_at f.order f.file) slots j o there in
        let ranged = of_range 0 SLOTS from.0 j from.1 in
        let ho = has_some f from.0 x.start o (shares_parts x o sharing).2
        (subst (λ (y : Extent). HasNone f from.0 y ⊎ HasExtent f from.0 y) from.2
        (extent_is f from.0)) in
        let its = ho.2 in let place = ranged.2 in
        let low = lt-ltb x.slot SLOTS (omega (arith, own, below)) in
        said_at _ is path (Some e.name) None None q at tt
        (o.slot, refl, omega (arith, its, place, le))
        (in_extent paths host libs list (made path (Some e.name) None q) number f slot looked below
        (subst (λ (n : ℕ). In (made path (Some (entry_at f.order f.file n).name) None q)
        (of_extent paths host libs list number f x)) own (rw in_slot (in_found_at path
        (Some (entry_at f.order f.file x.slot).name) None _ q (rw found) refl))))

    each_overlap : (other : ℕ) → thing.finding ≡ which.Entry (entry.Overlap other)
        → IsAt thing (path_of paths number) (Some e.name) None → other < slot
        → Share f slot other → Said
    each_overlap other is at before (p, here, there) =
        let o = extent_at f.order f.file other in
        let hx = extent_with f slot p here in
        let ho = extent_with f other p there in
        let a = inside f slot p x hx here in
        let b = inside f other p o ho there in
        let own = hx.2 in let its = ho.2 in
        overlap_first other hx.2 is at
        (in_find (shares x) (extents_in f) other o
        (extent_place f other (omega (arith, before, below)))
        (overlap_each x o (omega (arith, own, its, before)) (p, b.0, b.1, a.0, a.1)))

  -- 4. of a unit of the link
  module _ (h : OpenedFile) (opens : opened_alone host ≡ Ok h) (k : ℕ) (t : Seen)
      (there : slice_get list k ≡ Some t) where
    abbrev unit_path : List ℕ
    unit_path = path_of paths (unwrap_or t.file 0)

    abbrev takens : List Stated
    takens = found_at unit_path (Some t.name) None (taken_by h.order h.file t.slot t.part)

    abbrev spelled : List Stated
    spelled = found_at unit_path (Some t.name) None (other_spelling (take k list) t)

    in_takens : (s : Stated) → In s takens → In s All
    unfolding findings_of_unit
    in_takens s u = in_unit paths host libs list s h k t opens there
        (in_left takens spelled s u)

    in_spelled : (s : Stated) → In s spelled → In s All
    unfolding findings_of_unit
    in_spelled s u = in_unit paths host libs list s h k t opens there
        (in_right takens spelled s u)

    each_taken : (q : Finding) (slot : ℕ) → thing.finding ≡ q
        → IsAt thing unit_path (Some t.name) None → t.slot ≡ Some slot → slot < SLOTS
        → is_added t.part ≡ true → names_segment (entry_at h.order h.file slot) ≡ true
        → Says q (which.Link (link.TakenSlot slot (entry_at h.order h.file slot).name))
        → Said
    each_taken q slot is at has below added named says =
        let e = entry_at h.order h.file slot in
        let found = which.Link (link.TakenSlot slot e.name) in
        said_at q is _ _ _ _ found at tt says (in_takens _
        (in_found_at unit_path (Some t.name) None _ found
        (rw (has, lt-ltb slot SLOTS below) (taken_each slot t.part e added named)) refl))

    spelled_first : (name : List ℕ) (j : ℕ) → is_unit t.part ≡ true
        → thing.finding ≡ which.Link (link.OtherSpelling name)
        → IsAt thing unit_path (Some t.name) None
        → FirstUpTo (is_near_unit t.name) (take k list) j → Said
    spelled_first name j unit is at (i, o, found, place, near, le) =
        let q = which.Link (link.OtherSpelling o.name) in
        said_at _ is _ _ _ _ q at tt (o.name, refl)
        (in_spelled _ (in_found_at unit_path (Some t.name) None _ q (rw (unit, found)) refl))

    each_spelled : (name : List ℕ) (j : ℕ) (o : Seen) → is_unit t.part ≡ true
        → thing.finding ≡ which.Link (link.OtherSpelling name)
        → IsAt thing unit_path (Some t.name) None → slice_get list j ≡ Some o → j < k
        → is_unit o.part ≡ true → IsRespelled o.name t.name → Said
    each_spelled name j o unit is at place before ounit near =
        spelled_first name j unit is at (in_find (is_near_unit t.name) (take k list) j o
        (in_front k list j o before place)
        (and_from (is_unit o.part) (is_respelled o.name t.name) ounit
        (respelled_each o.name t.name near)))

  -- 5. of each kind
  each_by : (q : Finding) → thing.finding ≡ q → IsSo paths host libs list thing q → Said
  each_by (which.Record (finding.HighDefinition name value next)) e (g, i, is, at, (k, m, h)) =
      each_high g is name value next i e at k m h
  each_by (which.Record (finding.LowMark next size)) e (g, is, at, (k, sized, m, lt)) =
      each_low g is next size e at k sized m lt
  each_by (which.Record (finding.PastPrivate place d w)) e (g, i, is, at, h) =
      each_past g is place d w i e at h
  each_by (which.Record (finding.PastPublic place name d v n)) e (g, i, is, at, (hs, m, h)) =
      each_public g is place name d v n i hs e at m h
  each_by (which.Record (finding.OwnDefinition name)) e (g, i, is, at, (k, (hs, m, h))) =
      each_own g is name i hs e at k m h
  each_by (which.Record (finding.UnitDefinition name)) e (g, i, is, at, (k, v, never)) =
      each_other g is name i e at k v never
  each_by (which.Entry (entry.Overlap other)) e
      (number, f, slot, looked, below, at, (before, share)) =
      each_overlap number f looked slot below other e at before share
  each_by (which.Entry (entry.EmptySlot empty name kind)) e
      (number, f, slot, looked, below, at, (first, place, free, named, its, kinds, never)) =
      each_empty number f looked slot below
      (which.Entry (entry.EmptySlot empty name kind)) e first at free named never
      (rw (its, kinds, place))
  each_by (which.Link (link.TakenSlot slot name)) e
      (h, opens, (k, t, there, (at, (has, below, added, named, its)))) =
      each_taken h opens k t there (which.Link (link.TakenSlot slot name)) slot e at has below
      added named (rw its)
  each_by (which.Link (link.OtherSpelling name)) e
      (h, opens, (k, t, there, (at, (unit, (j, o, place, (before, ounit, its, near)))))) =
      each_spelled h opens k t there name j o unit e at place before ounit near
  each_by other e h = absurd h

  pub all_said : IsSo paths host libs list thing thing.finding → Said
  all_said h = each_by thing.finding refl h

pub are_said : (paths : List (List ℕ)) (host : List ℕ) (libs : List (List ℕ)) (list : List Seen)
    → AreSaid paths host libs list (of_all paths host libs list)
are_said paths host libs list = record {
  sound = all_so paths host libs list;
  each = λ thing h. all_said paths host libs list thing h;
}
