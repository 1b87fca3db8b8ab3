-- Where the files of a link are read without a fault, the lines of the segments as they were read
-- are those of the segments of the link.
use Rattle.std.proofs.Common.{◌≡◌, ◌∙◌, ◌∷◌, ◌<◌, [], ℕ, List, true, false, append-nil, length, map, refl, sym, ap, arith}
use Rattle.std.specs.Prelude.{All, Bool, Err, None, Ok, Option, Result, Some, filter_map, if◌then◌else◌, option_and_then, slice_get}
use Rattle.std.specs.List.{cons_option, find, list_any}
use Rattle.std.specs.Option.{option_map}
use Rattle.std.proofs.lemmas.Bool.{and_left, and_right}
use Rattle.std.proofs.lemmas.Grind.{flat_map-append}
use Rattle.std.proofs.lemmas.List.Elements.{All-from_get_or, All-head, All-tail}
use Rattle.std.proofs.lemmas.List.Folds.{list_any_none}
use Rattle.std.proofs.lemmas.List.FromFn.{get_or-range_with_len}
use Rattle.ps_words.specs.declared.fault.Fault.{Fault}
use Rattle.ps_words.specs.declared.fault.Reason.{Reason}
use Rattle.ps_codefile.specs.Dictionary.{slots}
use Rattle.ps_resolve.specs.AllFaults.{reading_fault}
use Rattle.ps_resolve.specs.Readings.{HostFiles, opened_host, slot_fault}
use Rattle.ps_resolve.specs.SlotReadings.{first_in, outcome_by, reading_in}
use Rattle.ps_resolve.specs.Sources.{Segment, opened_files}
use Rattle.ps_resolve.specs.Added.{empty_slots, segments}
use Rattle.ps_reading.specs.KnownSegments.{is_in_slot}
use Rattle.ps_reading.specs.declared.reading.added.UnitReference.{UnitReference}
use Rattle.ps_reading.proofs.InSlots.{by_slot}
use Rattle.ps_reading.proofs.ReadingSlots.{fault_of_host, fault_of_none, host_of_files, no_slot_fault, segments_are}
use Rattle.ps_check_segments.specs.Seen.{Seen}
use Rattle.ps_check_segments.specs.SeenSegments.{is_fault, is_of_host, is_refused_unit, requests_in, seen_by, seen_by_outcome, seen_in, seen_of, seen_read, seen_segment, seen_segments, seen_unit, seen_with, segments_in, unplaced}
use Rattle.ps_check_segments.specs.SegmentParts.{added_by}
use Rattle.ps_reading.specs.declared.slot_reading.Absent.TheVariants as absent
use Rattle.ps_explained.specs.SegmentLines.{line_in_slot, lines_of_segments, read_line, read_lines, segment_line, segment_lines}
use Rattle.ps_codefile.specs.declared.dictionary_layout.TheConstants.{SLOTS}

abbrev IsSlot : ℕ → Type 0
IsSlot x = x < SLOTS

all_slots : All IsSlot slots
all_slots = All-from_get_or IsSlot slots 0
    (λ i lt. omega (arith, lt, get_or-range_with_len 0 SLOTS i 0))

-- what was read without a fault
abbrev kept : Option Segment → Option (Result Segment Fault)
kept o = option_map Ok o

by_fault : (f : Option Fault) (o : Option (Result Segment Fault)) → f ≡ None
    → (elim f [ Some fault ↦ Some (Err fault) | None ↦ o ]) ≡ o
by_fault None o h = refl
by_fault (Some f) o h = cc

no_fault_of : (o : Option Segment) → is_fault (kept o) ≡ false
no_fault_of None = refl
no_fault_of (Some s) = refl

none_pass : (p : ℕ → Bool) (xs : List ℕ) → All IsSlot xs
    → ((x : ℕ) → x < SLOTS → p x ≡ false) → list_any p xs ≡ false
none_pass p xs in_range h = list_any_none p xs (λ k d lt. h _ (in_range k d lt))

module _ (paths : List (List ℕ)) (unread : Bool) (host : List ℕ) (libs : List (List ℕ))
    (v : HostFiles)
    (none : first_in v ≡ None) where
  abbrev all : List Segment
  all = segments_in v

  abbrev found : ℕ → Option Segment
  found slot = find (is_in_slot slot) all

  abbrev line : Segment → List ℕ
  line s = segment_line paths all (requests_in v) s

  -- what was read of a slot is its segment, if it has one
  reading_is : (slot : ℕ) → slot < SLOTS → reading_in v slot ≡ kept (found slot)
  reading_is slot lt =
      by_fault (slot_fault v.order v.file (opened_files v.order v.libs) slot)
      (kept (found slot)) (no_slot_fault v.order v.file v.libs none slot lt)

  -- no unit of the host is refused
  not_refused : (name : List ℕ) (slot : ℕ) → slot < SLOTS → is_refused_unit v name slot ≡ false
  not_refused name slot lt = and_left (is_fault (reading_in v slot)) _
      (rw (reading_is slot lt) (no_fault_of (found slot)))

  not_of_host : (name : List ℕ) → is_of_host v name ≡ false
  unfolding is_of_host
  not_of_host name = none_pass (is_refused_unit v name) slots all_slots (not_refused name)

  seen_kept : (slot : ℕ) (o : Option Segment)
      → seen_by_outcome host libs v slot (outcome_by v slot (kept o))
      ≡ option_map (seen_segment v) o
  unfolding seen_read
  seen_kept slot None = rw none refl
  seen_kept slot (Some s) = rw (and_right s.added (is_of_host v s.name) (not_of_host s.name)) refl

  seen_is : (slot : ℕ) → slot < SLOTS
      → seen_in host libs v slot ≡ option_map (seen_segment v) (found slot)
  unfolding seen_in
  seen_is slot lt = rw (reading_is slot lt) (seen_kept slot (found slot))

  -- the line of a segment that was read is that of the link
  one : (s : Segment) → line_in_slot (seen_segment v s).slot
      (read_line paths unread (seen_segment v s)) ≡ line s ∷ []
  unfolding seen_segment segment_line
  one s = refl

  kept_lines : (o : Option Segment) (later : List Seen) (others : List Segment)
      → read_lines paths unread later ≡ map line others
      → read_lines paths unread (cons_option (option_map (seen_segment v) o) later)
      ≡ map line (cons_option o others)
  kept_lines None later others h = h
  kept_lines (Some s) later others h = rw (one s, h) refl

  lines_in_slots : (xs : List ℕ) → All IsSlot xs
      → read_lines paths unread (filter_map (seen_in host libs v) xs)
      ≡ map line (filter_map found xs)
  lines_in_slots [] in_range = refl
  lines_in_slots (x ∷ xs) in_range = rw (seen_is x (All-head IsSlot x xs in_range))
      (kept_lines (found x) (filter_map (seen_in host libs v) xs) (filter_map found xs)
      (lines_in_slots xs (All-tail IsSlot x xs in_range)))

  -- a unit for which no slot is left has none
  no_line : (b : Bool) (u : UnitReference) → read_lines paths unread (cons_option (if b then None
      else Some (seen_with None u.name (added_by all u.at) (Err absent.Unplaced))) []) ≡ []
  unfolding seen_with
  no_line true u = refl
  no_line false u = refl

  no_lines : (o : Option UnitReference)
      → read_lines paths unread (cons_option (option_and_then (seen_unit v) o) []) ≡ []
  no_lines None = refl
  no_lines (Some u) = no_line (is_of_host v u.name) u

  unplaced_lines : read_lines paths unread (cons_option (unplaced v) []) ≡ []
  unfolding unplaced
  unplaced_lines = no_lines (slice_get (requests_in v)
      (length (empty_slots v.order v.file)))

  all_lines : filter_map found slots ≡ all
      → read_lines paths unread (seen_of host libs v) ≡ lines_of_segments paths all (requests_in v)
  unfolding seen_of
  all_lines are = let kept_seen : List Seen = filter_map (seen_in host libs v) slots in
      flat_map-append (λ (x : Seen). line_in_slot x.slot (read_line paths unread x)) kept_seen
      (cons_option (unplaced v) [])
      ∙ rw (unplaced_lines, append-nil) (lines_in_slots slots all_slots ∙ ap (map line) are)

pub read_lines_are : (paths : List (List ℕ)) (unread : Bool) (host : List ℕ) (libs : List (List ℕ))
    → reading_fault host libs ≡ None
    → read_lines paths unread (seen_segments host libs) ≡ segment_lines paths host libs
read_lines_are paths unread host libs none = by (opened_host host libs) refl
  where
    by : (r : Result HostFiles Reason) → opened_host host libs ≡ r
        → read_lines paths unread (seen_by host libs r) ≡ segment_lines paths host libs
    by (Err why) e = let both = sym none ∙ fault_of_none host libs why e in cc
    by (Ok v) e =
        let fine : first_in v ≡ None = fault_of_host host libs v e ∙ none in
        let same = host_of_files host libs v e in
        let are : segments_in v ≡ segments v.order v.file v.libs =
        segments_are v.order v.file v.libs fine in
        let found_all : filter_map (λ (slot : ℕ). find (is_in_slot slot) (segments_in v)) slots
        ≡ segments_in v = rw are (by_slot v.order v.file v.libs) in
        all_lines paths unread host libs v fine found_all ∙ rw (are, same) refl
