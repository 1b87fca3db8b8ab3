-- Each finding about the link is so: what is found in records, of entries and of units.
use Rattle.std.proofs.Common.{◌≡◌, ◌∙◌, ◌+◌, ◌*◌, ◌<◌, ◌≤◌, ℕ, Bool, true, false, List, [], ◌∷◌, Option, Some, None, length, refl, ap, subst, sym, inl, inr, arith}
use Rattle.std.specs.Prelude.{◌⊎◌, ◌==◌, ◌&&◌, if◌then◌else◌, nat_lt, Result, Ok, find, slice_get, take, unwrap_or}
use Rattle.std.specs.List.{list_any}
use Rattle.std.specs.Option.{option_map, option_map_or}
use Rattle.std.proofs.lemmas.Bool.{both_ways, cases_lt, eqb-true, eq-eqb, and_from, and_parts, or_cases, ltb-true}
use Rattle.std.proofs.lemmas.Map.Keys.{any_passes_from_place}
use Rattle.std.proofs.lemmas.Option.{same_Some}
use Rattle.std.proofs.lemmas.Slice.Eq.{bytes_eq-Decides}
use Rattle.std.specs.Str.{bytes_eq}
use Rattle.ps_words.specs.declared.fault.Reason.{Reason}
use Rattle.ps_words.specs.declared.order.Order.{Order}
use Rattle.ps_codefile.specs.Dictionary.{OpenedFile, entry_at, kind_needs_linking, opened_alone, role_of, slots}
use Rattle.ps_codefile.specs.declared.dictionary_layout.TheConstants.{SLOTS}
use Rattle.ps_codefile.specs.declared.entry.Entry.{Entry}
use Rattle.ps_codefile.specs.declared.entry.Role.{Role}
use Rattle.ps_codefile.specs.declared.entry.Role.TheVariants as role
use Rattle.ps_linkinfo.specs.Numbered.{numbered_records}
use Rattle.ps_linkinfo.specs.declared.record.LinkRecord.{LinkRecord as Record}
use Rattle.ps_resolve.specs.Standing.Phrases.{SomeItem}
use Rattle.ps_check_segments.specs.Paths.{path_of}
use Rattle.ps_check_segments.specs.Seen.{Seen, has_slot, host_records}
use Rattle.ps_check_segments.specs.SegmentParts.{is_unit}
use Rattle.ps_check_segments.specs.declared.segments.SegmentPart.{SegmentPart}
use Rattle.ps_filetype.specs.Names.{is_respelled}
use Rattle.ps_warnings.specs.Searches.AllFindings.{findings_of_unit}
use Rattle.ps_warnings.specs.Searches.EntryFindings.{empty_finding, empty_slot, shares}
use Rattle.ps_warnings.specs.Searches.FileFindings.{comes_from, definition_findings, extent_at, findings_of_records, host_met}
use Rattle.ps_warnings.specs.SegmentSizes.{data_size}
use Rattle.ps_warnings.specs.Found.{Stated, found_at, found_in_record}
use Rattle.ps_warnings.specs.Searches.LinkFindings.{is_near_unit, other_spelling, taken_by, taken_slot}
use Rattle.ps_warnings.specs.Searches.RecordFindings.{end_mark, first_above, first_definition, first_past, first_public, is_missed, is_requested, low_mark}
use Rattle.ps_warnings.specs.WarnedFiles.{AreInOrder, AscendFrom, FileSegment, IsAt, IsLinkedFrom, IsLookedAt, IsMet, IsNumber, IsSo, Share, entry_of}
use Rattle.ps_warnings.specs.Warned.{IsOwnDefinition}
use Rattle.ps_warnings.specs.declared.finding.EntryFinding.TheVariants as entry
use Rattle.ps_warnings.specs.declared.finding.Finding.{Finding}
use Rattle.ps_warnings.specs.declared.finding.Finding.TheVariants as which
use Rattle.ps_warnings.specs.declared.finding.LinkFinding.TheVariants as link
use Rattle.ps_warnings.specs.declared.findings.extents.Extent.{Extent}
use Rattle.ps_warnings.proofs.Extents.{HasExtent, HasNone, byte_at_block, extent_is, has_first}
use Rattle.ps_warnings.proofs.FoundAt.{at_made, found_has, made, record_has}
use Rattle.ps_warnings.proofs.InFiles.{all_ascend, extents_in, met, of_all, of_empty, of_extent, of_segment, of_unit}
use Rattle.ps_lists.proofs.Items.{Ascends, if_both, item_of, none, of_any, of_find, of_map, of_take, one_then, wider}
use Rattle.ps_warnings.proofs.Slots.{in_slot, no_slot, of_host, of_unit as of_definitions}
use Rattle.ps_warnings.proofs.Warned.{high_found, low_found, past_found}
use Rattle.ps_warnings.proofs.WarnedPublics.{definition_found, mark_found, missed_own, own_missed}
use Rattle.ps_warnings.proofs.WarnedSlots.{empty_found, respelled_found, taken_found}

-- 1. options and kinds
low_sized : (m o : Option ℕ) (f : Finding) → low_mark m o ≡ Some f → (size : ℕ) × (o ≡ Some size)
low_sized None o f h = none f _ h
low_sized (Some next) None f h = none f _ h
low_sized (Some next) (Some size) f h = (size, refl)

public_met : (code : List ℕ) (o : Option (List Record)) (rs : List Record) (p : ℕ × Finding)
    → first_public code o (numbered_records 0 rs) ≡ Some p
    → (hs : List Record) × (o ≡ Some hs)
    × (first_public code (Some hs) (numbered_records 0 rs) ≡ Some p)
public_met code None rs p h = none p _ h
public_met code (Some hs) rs p h = (hs, refl, h)

pub missed_met : (rs : List Record) (o : Option (List Record)) (name : List ℕ)
    → is_missed rs o name ≡ true
    → (hs : List Record) × (o ≡ Some hs) × (is_missed rs (Some hs) name ≡ true)
missed_met rs None name h = absurd (both_ways (is_missed rs None name) (unmet (is_requested rs name)) h)
  where
    unmet : (b : Bool) → (b && false) ≡ false
    unmet true = refl
    unmet false = refl
missed_met rs (Some hs) name h = (hs, refl, h)

pub unit_kind : (kind : ℕ) → kind_needs_linking kind ≡ true → (kind == 1) ≡ false → kind ≡ 3
unit_kind kind n h = elim (or_cases (kind == 1) (kind == 3) n) [
  | inl one ↦ absurd (both_ways (kind == 1) h one)
  | inr three ↦ eqb-true kind 3 three
]

file_is : (number : ℕ) (o : Option ℕ) → option_map_or (λ (f : ℕ). f == number) o false ≡ true
    → o ≡ Some number
file_is number None h = absurd (both_ways false refl h)
file_is number (Some k) h = ap (λ (j : ℕ). Some j) (eqb-true k number h)

is_file : (number : ℕ) (o : Option ℕ) → o ≡ Some number
    → option_map_or (λ (f : ℕ). f == number) o false ≡ true
is_file number o h = ap (λ (q : Option ℕ). option_map_or (λ (f : ℕ). f == number) q false) h
    ∙ eq-eqb number number refl

pub slot_has : (slot : ℕ) (t : Seen) → t.slot ≡ Some slot → has_slot slot t ≡ true
slot_has slot t h = is_file slot t.slot h

pub has_slot_is : (slot : ℕ) (t : Seen) → has_slot slot t ≡ true → t.slot ≡ Some slot
has_slot_is slot t h = file_is slot t.slot h

comes : (number : ℕ) (name : List ℕ) (s : Seen) → comes_from number name s ≡ true
    → (s.file ≡ Some number) × (s.name ≡ name)
comes number name s h =
    let both = and_parts (option_map_or (λ (f : ℕ). f == number) s.file false) (bytes_eq name s.name) h in
    (file_is number s.file both.0, sym ((bytes_eq-Decides name s.name).0 both.1))

pub is_from : (number : ℕ) (name : List ℕ) (s : Seen) → s.file ≡ Some number → s.name ≡ name
    → comes_from number name s ≡ true
is_from number name s file named =
    and_from (option_map_or (λ (f : ℕ). f == number) s.file false) (bytes_eq name s.name)
    (is_file number s.file file) ((bytes_eq-Decides name s.name).1 (sym named))

-- the host program that a unit meets
module _ (list : List Seen) (g : FileSegment) where
  pub is_met : (hs : List Record)
      → host_met list g.number (entry_of g).name (host_records list) ≡ Some hs → IsMet list g hs
  is_met hs h = let c = if_both (list_any (comes_from g.number (entry_of g).name) list)
      (host_records list) hs h in
      let a = of_any (comes_from g.number (entry_of g).name) list c.0 in
      (c.1, (a.0, a.1, a.2, comes g.number (entry_of g).name a.1 a.3))

  pub met_is : (hs : List Record) → IsMet list g hs
      → host_met list g.number (entry_of g).name (host_records list) ≡ Some hs
  met_is hs (program, (k, s, at, (file, named))) =
      ap (λ (b : Bool). if b then host_records list else None)
      (any_passes_from_place (comes_from g.number (entry_of g).name) list k s at
      (is_from g.number (entry_of g).name s file named)) ∙ program

-- 2. an empty slot
empty_role : (slot : ℕ) (taken : Bool) (e : Entry) (r : Result Role Reason) (f : Finding)
    → empty_finding slot taken e r ≡ Some f
    → (r ≡ Ok role.Empty) × (empty_slot slot taken e ≡ Some f)
empty_role slot taken e (Ok role.Empty) f h = (refl, h)
empty_role slot taken e other f h = none f _ h

-- 3. entries that overlap
overlap_of : (m : Option Extent) (f : Finding)
    → option_map (λ (o : Extent). which.Entry (entry.Overlap o.slot)) m ≡ Some f
    → (o : Extent) × (m ≡ Some o) × (f ≡ which.Entry (entry.Overlap o.slot))
overlap_of None f h = none f _ h
overlap_of (Some o) f h = (o, refl, sym (same_Some (which.Entry (entry.Overlap o.slot)) f h))

pub shares_parts : (x o : Extent) → shares x o ≡ true
    → (o.slot < x.slot) × (o.start < x.end) × (x.start < o.end)
shares_parts x o h =
    let t = and_parts (nat_lt o.slot x.slot) (nat_lt o.start x.end && nat_lt x.start o.end) h in
    let u = and_parts (nat_lt o.start x.end) (nat_lt x.start o.end) t.1 in
    (ltb-true o.slot x.slot t.0, ltb-true o.start x.end u.0, ltb-true x.start o.end u.1)

pub has_some : (f : OpenedFile) (slot n : ℕ) (x : Extent) → n < x.end
    → HasNone f slot x ⊎ HasExtent f slot x → HasExtent f slot x
has_some f slot n x more (inl lacks) = let end : x.end ≡ 0 = ap (λ (y : Extent). y.end) lacks.0 in
    absurd (omega (arith, more, end))
has_some f slot n x more (inr has) = has

module _ (f : OpenedFile) (slot other : ℕ) (x o : Extent) (hx : HasExtent f slot x)
    (ho : HasExtent f other o) where
  share_of : o.start < x.end → x.start < o.end → Share f slot other
  share_of a b = let px = has_first f slot x hx in let po = has_first f other o ho in
      elim (cases_lt x.start o.start) [
        | inl before ↦ (
          o.start,
          byte_at_block f slot x hx o.start
              (entry_at f.order f.file other).address ho.3 (omega (arith, before)) a,
          byte_at_block f other o ho o.start (entry_at f.order f.file other).address ho.3
              (omega arith) po,
        )
        | inr after ↦ (
          x.start,
          byte_at_block f slot x hx x.start
              (entry_at f.order f.file slot).address hx.3 (omega arith) px,
          byte_at_block f other o ho x.start (entry_at f.order f.file slot).address hx.3
              (omega (arith, after)) b,
        )
      ]

-- 4. a unit of the link
taken_cases : (order : Order) (host : List ℕ) (o : Option ℕ) (what : SegmentPart) (f : Finding)
    → taken_by order host o what ≡ Some f
    → (slot : ℕ) × (o ≡ Some slot) × (slot < SLOTS)
    × (taken_slot slot what (entry_at order host slot) ≡ Some f)
taken_cases order host None what f h = none f _ h
taken_cases order host (Some slot) what f h =
    let c = if_both (nat_lt slot SLOTS) (taken_slot slot what (entry_at order host slot)) f h in
    (slot, refl, ltb-true slot SLOTS c.0, c.1)

spelling_of : (m : Option Seen) (f : Finding)
    → option_map (λ (o : Seen). which.Link (link.OtherSpelling o.name)) m ≡ Some f
    → (o : Seen) × (m ≡ Some o) × (f ≡ which.Link (link.OtherSpelling o.name))
spelling_of None f h = none f _ h
spelling_of (Some o) f h = (o, refl, sym (same_Some (which.Link (link.OtherSpelling o.name)) f h))

-- 5. each finding is so, and has its number
module _ (paths : List (List ℕ)) (host : List ℕ) (libs : List (List ℕ)) (list : List Seen) where
  abbrev Right : ℕ → Stated → Type 0
  Right n s = IsSo paths host libs list s s.finding × IsNumber paths host libs list n s

  ordered : (a b : ℕ) → a ≤ b → Ascends Right a b []
  ordered a b le = le

  -- of a segment
  module _ (g : FileSegment) (is : IsLinkedFrom host libs g) where
    abbrev path : List ℕ
    path = path_of paths g.number

    abbrev segment : Option (List ℕ)
    segment = Some (entry_of g).name

    abbrev place : ℕ
    place = 32 * g.number + g.slot

    abbrev host_of : Option (List Record)
    host_of = met paths host libs list g.number (entry_of g).name

    -- these findings are right, and have the numbers from this turn on and before that one
    abbrev Turns : ℕ → ℕ → List Stated → Type 0
    Turns a b l = Ascends Right (10 * place + a) (10 * place + b) l

    at : (rec : Option ℕ) (f : Finding) → IsAt (made path segment rec f) path segment rec
    at rec f = at_made path segment rec f

    pasts : Turns 0 1 (found_in_record path segment (first_past g.code (numbered_records 0 g.records)))
    pasts = record_has Right (10 * place + 0) (10 * place + 0) (10 * place + 1)
        (omega arith) (omega arith) path segment _ (λ i f h.
        let r = past_found g.code g.records i f h in
        rw r.3 ((g, i, is, at (Some i) _, r.4), (place, (g, i, is, at (Some i) _, refl), refl)))

    publics : Turns 1 2 (found_in_record path segment
        (first_public g.code host_of (numbered_records 0 g.records)))
    publics = record_has Right (10 * place + 1) (10 * place + 1) (10 * place + 2)
        (omega arith) (omega arith) path segment _ (λ i f h.
        let m = public_met g.code host_of g.records (i, f) h in
        let r = mark_found g.code m.0 g.records i f m.2 in
        rw r.5 (
          (g, i, is, at (Some i) _, (m.0, is_met list g m.0 m.1, r.6)),
          (place, (g, i, is, at (Some i) _, refl), refl),
        ))

    lows : (entry_of g).kind ≡ 1 → Turns 2 3 (found_at path segment None
        (low_mark (end_mark g.records) (data_size g.file.order g.code)))
    lows k = found_has Right (10 * place + 2) (10 * place + 2) (10 * place + 3)
        (omega arith) (omega arith) path segment None _ (λ f h.
        let z = low_sized (end_mark g.records) (data_size g.file.order g.code) f h in
        let r = low_found g.records z.0 f (rw z.1 at h) in
        rw r.1 ((g, is, at None _, (k, z.1, r.2, r.3)), (place, (g, is, at None _, refl), refl)))

    highs : (entry_of g).kind ≡ 1 → Turns 3 4 (found_in_record path segment (first_above g.records))
    highs k = record_has Right (10 * place + 3) (10 * place + 3) (10 * place + 4)
        (omega arith) (omega arith) path segment _ (λ i f h.
        let r = high_found g.records i f h in
        rw r.3 (
          (g, i, is, at (Some i) _, (k, r.4, r.5)),
          (place, (g, i, is, at (Some i) _, refl), refl),
        ))

    owns : (entry_of g).kind ≡ 3 → Turns 4 5 (found_in_record path segment
        (first_definition true g.records host_of (numbered_records 0 g.records)))
    owns k = record_has Right (10 * place + 4) (10 * place + 4) (10 * place + 5)
        (omega arith) (omega arith) path segment _ (λ i f h.
        let r = definition_found true g.records host_of i f h in
        let z = missed_met g.records host_of r.0 r.3 in
        let own = missed_own z.0 g.records i r.0 r.2 z.2 in
        rw r.1 (
          (g, i, is, at (Some i) _, (k, (z.0, is_met list g z.0 z.1, own))),
          (place, (g, i, is, at (Some i) _, refl), refl),
        ))

    others : (entry_of g).kind ≡ 3 → Turns 5 6 (found_in_record path segment
        (first_definition false g.records host_of (numbered_records 0 g.records)))
    others k = record_has Right (10 * place + 5) (10 * place + 5) (10 * place + 6)
        (omega arith) (omega arith) path segment _ (λ i f h.
        let r = definition_found false g.records host_of i f h in
        let never = λ (hs : List Record) (met : IsMet list g hs) (own : IsOwnDefinition hs g.records i r.0).
        both_ways (is_missed g.records host_of r.0) r.3
        (ap (λ (o : Option (List Record)). is_missed g.records o r.0) (met_is list g hs met)
        ∙ own_missed hs g.records i r.0 own) in
        rw r.1 (
          (g, i, is, at (Some i) _, (k, r.2, never)),
          (place, (g, i, is, at (Some i) _, refl), refl),
        ))

    defined : (b : Bool) → ((entry_of g).kind == 1) ≡ b → Turns 2 6 (definition_findings path segment
        host_of (entry_of g).kind (data_size g.file.order g.code) g.records)
    defined true h = let k = eqb-true (entry_of g).kind 1 h in
        rw of_host (wider Right (10 * place + 2) (10 * place + 2) (10 * place + 4) (10 * place + 6) _
        (one_then Right (10 * place + 2) (10 * place + 3) (10 * place + 3) (10 * place + 4) _ _
        (lows k) (highs k) (omega arith)) (omega arith) (omega arith))
    defined false h = let k = unit_kind (entry_of g).kind is.linked h in
        rw of_definitions (wider Right (10 * place + 2) (10 * place + 4) (10 * place + 6)
        (10 * place + 6) _ (one_then Right (10 * place + 4) (10 * place + 5) (10 * place + 5)
        (10 * place + 6) _ _ (owns k) (others k) (omega arith)) (omega arith) (omega arith))

    segments : Ascends Right (10 * place) (10 * place + 10) (of_segment paths host libs list g)
    unfolding findings_of_records
    segments = wider Right (10 * place) (10 * place + 0) (10 * place + 6) (10 * place + 10) _
        (one_then Right (10 * place + 0) (10 * place + 2) (10 * place + 2) (10 * place + 6) _ _
        (one_then Right (10 * place + 0) (10 * place + 1) (10 * place + 1) (10 * place + 2) _ _
        pasts publics (omega arith)) (defined ((entry_of g).kind == 1) refl) (omega arith))
        (omega arith) (omega arith)

  -- of an empty slot
  empties : (number : ℕ) (f : OpenedFile) (slot : ℕ) → number ≡ 0 → IsLookedAt host libs number f
      → slot < SLOTS → Ascends Right (10 * (32 * number + slot)) (10 * (32 * number + slot) + 10)
      (of_empty paths host libs list number f slot)
  empties number f slot first looked below =
      let place = 32 * number + slot in
      let e = entry_at f.order f.file slot in
      let taken = list_any (has_slot slot) list in
      let path = path_of paths number in
      found_has Right (10 * place) (10 * place + 0) (10 * place + 10) (omega arith) (omega arith)
      path None None _ (λ q h.
      let r = empty_role slot taken e (role_of e) q h in
      let n = empty_found slot taken e q r.1 in
      let free = λ (k : SomeItem list (λ j t. t.slot ≡ Some slot)).
      both_ways taken n.1 (any_passes_from_place (has_slot slot) list k.0 k.1 k.2
      (slot_has slot k.1 k.3)) in
      rw n.0 (
        (
          number,
          f,
          slot,
          looked,
          below,
          at_made path None None _,
          (first, refl, r.0, n.2, refl, refl, free),
        ),
        (place, (number, f, slot, looked, below, at_made path None None _, refl), refl),
      ))

  -- of entries
  module _ (number : ℕ) (f : OpenedFile) (slot : ℕ) (looked : IsLookedAt host libs number f)
      (below : slot < SLOTS) where
    abbrev x : Extent
    x = extent_at f.order f.file slot

    abbrev spot : ℕ
    spot = 32 * number + 16 + slot

    abbrev named : Option (List ℕ)
    named = Some (entry_at f.order f.file x.slot).name

    abbrev in_file : Finding → Stated
    in_file q = made (path_of paths number) named None q

    overlap_at : (q : Finding) (o : Extent) (other : ℕ) → x.slot ≡ slot → o.slot ≡ other
        → other < slot → Share f slot other → q ≡ which.Entry (entry.Overlap o.slot)
        → Right (10 * spot + 0) (in_file q)
    overlap_at q o other own its before share is =
        let there : IsAt (in_file (which.Entry (entry.Overlap other))) (path_of paths number)
        (Some (entry_at f.order f.file slot).name) None = record {
          path = refl;
          segment = ap (λ (n : ℕ). Some (entry_at f.order f.file n).name) own;
          rec = refl;
        } in
        subst (λ (z : Finding). Right (10 * spot + 0) (in_file z))
        (sym (is ∙ ap (λ (n : ℕ). which.Entry (entry.Overlap n)) its)) (
          (number, f, slot, looked, below, there, (before, share)),
          (spot, (number, f, slot, looked, below, there, refl), refl),
        )

    overlap_with : (q : Finding) (o : Extent) (other : ℕ) → extent_at f.order f.file other ≡ o
        → shares x o ≡ true → q ≡ which.Entry (entry.Overlap o.slot)
        → Right (10 * spot + 0) (in_file q)
    overlap_with q o other from sharing is = let p = shares_parts x o sharing in
        let hx = has_some f slot o.start x p.1 (extent_is f slot) in
        let ho = has_some f other x.start o p.2 (subst (λ (y : Extent).
        HasNone f other y ⊎ HasExtent f other y) from (extent_is f other)) in
        let own = hx.2 in let its = ho.2 in let before = p.0 in
        overlap_at q o other own its (omega (arith, own, its, before))
        (share_of f slot other x o hx ho p.1 p.2) is

    overlaps_by : (b : Bool) → nat_lt x.slot SLOTS ≡ b → Ascends Right (10 * spot) (10 * spot + 10)
        (of_extent paths host libs list number f x)
    overlaps_by true h = rw (in_slot, h) (found_has Right (10 * spot) (10 * spot + 0)
        (10 * spot + 10) (omega arith) (omega arith) (path_of paths number) named None _ (λ q is.
        let o = overlap_of (find (shares x) (extents_in f)) q is in
        let m = of_find (shares x) (extents_in f) o.0 o.1 in
        let from = of_map (extent_at f.order f.file) slots m.0 o.0 m.1 in
        overlap_with q o.0 from.0 from.2 m.2 o.2))
    overlaps_by false h = rw (no_slot, h) (ordered (10 * spot) (10 * spot + 10) (omega arith))

    overlaps : Ascends Right (10 * spot) (10 * spot + 10) (of_extent paths host libs list number f x)
    overlaps = overlaps_by (nat_lt x.slot SLOTS) refl

  -- of a unit of the link
  module _ (h : OpenedFile) (k : ℕ) (t : Seen) (opens : opened_alone host ≡ Ok h)
      (at : slice_get list k ≡ Some t) where
    abbrev unit_path : List ℕ
    unit_path = path_of paths (unwrap_or t.file 0)

    abbrev link_place : ℕ
    link_place = 32 * length (host ∷ libs) + k

    there : (q : Finding) → IsAt (made unit_path (Some t.name) None q) unit_path (Some t.name) None
    there q = at_made unit_path (Some t.name) None q

    takens : Ascends Right (10 * link_place + 0) (10 * link_place + 1)
        (found_at unit_path (Some t.name) None (taken_by h.order h.file t.slot t.part))
    takens = found_has Right (10 * link_place + 0) (10 * link_place + 0) (10 * link_place + 1)
        (omega arith) (omega arith) unit_path (Some t.name) None _ (λ q is.
        let c = taken_cases h.order h.file t.slot t.part q is in
        let n = taken_found c.0 t.part (entry_at h.order h.file c.0) q c.3 in
        rw n.0 (
          (h, opens, (k, t, at, (there _, (c.1, c.2, n.1, n.2, refl)))),
          (link_place, (h, opens, (k, t, at, (there _, refl))), refl),
        ))

    spellings : Ascends Right (10 * link_place + 1) (10 * link_place + 2)
        (found_at unit_path (Some t.name) None (other_spelling (take k list) t))
    spellings = found_has Right (10 * link_place + 1) (10 * link_place + 1) (10 * link_place + 2)
        (omega arith) (omega arith) unit_path (Some t.name) None _ (λ q is.
        let c = if_both (is_unit t.part)
        (option_map (λ (o : Seen). which.Link (link.OtherSpelling o.name))
        (find (is_near_unit t.name) (take k list))) q is in
        let o = spelling_of (find (is_near_unit t.name) (take k list)) q c.1 in
        let m = of_find (is_near_unit t.name) (take k list) o.0 o.1 in
        let front = of_take k list m.0 o.0 m.1 in
        let both = and_parts (is_unit o.0.part) (is_respelled o.0.name t.name) m.2 in
        let near = respelled_found o.0.name t.name both.1 in
        rw o.2 (
          (
            h,
            opens,
            (
              k,
              t,
              at,
              (
                there _,
                (
                  c.0,
                  (
                    m.0,
                    o.0,
                    front.1,
                    (front.0, both.0, refl, near),
                  ),
                ),
              ),
            ),
          ),
          (link_place, (h, opens, (k, t, at, (there _, refl))), refl),
        ))

    units : Ascends Right (10 * link_place) (10 * link_place + 10)
        (of_unit paths host libs list h k t)
    unfolding findings_of_unit
    units = wider Right (10 * link_place) (10 * link_place + 0) (10 * link_place + 2)
        (10 * link_place + 10) _ (one_then Right (10 * link_place + 0) (10 * link_place + 1)
        (10 * link_place + 1) (10 * link_place + 2) _ _ takens spellings (omega arith))
        (omega arith) (omega arith)

  all_right : Ascends Right 0 (320 * length (host ∷ libs) + 10 * length list)
      (of_all paths host libs list)
  all_right = all_ascend paths host libs list Right segments empties overlaps units

  pub all_so : (k : ℕ) (s : Stated) → slice_get (of_all paths host libs list) k ≡ Some s
      → IsSo paths host libs list s s.finding
  all_so k s at = (item_of Right 0 (320 * length (host ∷ libs) + 10 * length list)
      (of_all paths host libs list) k s all_right at).1.0

  ascending : (a b : ℕ) (l : List Stated) → Ascends Right a b l → AscendFrom paths host libs list a l
  ascending a b [] h = tt
  ascending a b (s ∷ l) (n, le, r, more) = (n, le, r.1, ascending (n + 1) b l more)

  pub all_in_order : AreInOrder paths host libs list (of_all paths host libs list)
  all_in_order = ascending 0 (320 * length (host ∷ libs) + 10 * length list)
      (of_all paths host libs list) all_right
