-- Units that only a unit names: which names are looked up in the libraries, which empty slot each
-- takes, the segments that are added so, and then all segments of a link.
use Rattle.std.specs.Prelude.{◌≡◌, ◌⊎◌, ◌≤◌, ℕ, ◌+◌, ◌==◌, ◌||◌, if◌then◌else◌, List, [], ◌∷◌, ◌++◌, length, map, slice_get, All, Bool, true, Option, Some, None, is_some, option_and_then, bytes_eq}
use Rattle.std.specs.List.{range_with_len, list_any, filter, filter_map, flat_map, find}
use Rattle.std.specs.Map.{lookup}
use Rattle.std.specs.Option.{option_map, option_map_or, option_or}
use Rattle.ps_words.specs.FaultPlaces.{in_record}
use Rattle.ps_words.specs.declared.order.Order.{Order}
use Rattle.ps_words.specs.declared.fault.Reason.TheVariants as reason
use Rattle.ps_words.specs.declared.fault.Fault.{Fault}
use Rattle.ps_codefile.specs.Dictionary.{slots, name_at}
use Rattle.ps_linkinfo.specs.RecordCounts.{is_unit_reference}
use Rattle.ps_linkinfo.specs.declared.record.LinkRecord.{LinkRecord}
use Rattle.ps_codefile.specs.Roles.{is_empty}
use Rattle.ps_reading.specs.Sources.{Segment, own_segment, own_segments, units_of}
use Rattle.ps_reading.specs.Faults.{is_role, request_fault}
pub use Rattle.ps_reading.specs.Requests.{is_missing, as_added}
use Rattle.ps_reading.specs.Requests.{requested_segment}
use Rattle.ps_reading.specs.declared.reading.request.Request.{Request}
use Rattle.ps_reading.specs.declared.reading.request.Requester.TheVariants.{Record}
use Rattle.ps_reading.specs.declared.reading.added.UnitReference.{UnitReference}
use Rattle.ps_codefile.specs.declared.dictionary_layout.TheConstants.{FIRST_ADDED}
use Rattle.ps_reading.specs.declared.reading.added.TheConstants.{MAX_ADDED, MAX_REQUESTED}

-- the UNITREF records of a segment from this file in this slot, the first of whose records has
-- number `rec`
abbrev pub unit_references : ℕ → ℕ → ℕ → List LinkRecord → List UnitReference
unit_references file slot rec [] = []
unit_references file slot rec (r ∷ rs) =
    if is_unit_reference r.body
    then record
    { name = r.name; at = record { segment = record { file = file; slot = slot }; rec = rec } }
    ∷ unit_references file slot (rec + 1) rs
    else unit_references file slot (rec + 1) rs

-- the UNITREF records of all these segments, one segment after another
abbrev pub all_unit_references : List Segment → List UnitReference
all_unit_references segs = flat_map (λ s. unit_references s.file s.slot 0 s.records) segs

-- a unit in a slot of the host has the name, or it is in the queue of those that are requested
abbrev pub is_already_known : List (List ℕ × ℕ) → List UnitReference → List ℕ → Bool
is_already_known units queue name = is_some (lookup (bytes_eq name) units)
    || list_any (λ g. bytes_eq g.name name) queue

-- The queue of the names that are requested, each with the record that first gave it: after those
-- of `queue`, each name of the references that no unit has and that is not in the queue yet.
abbrev pub requested_from : List (List ℕ × ℕ) → List UnitReference → List UnitReference
    → List UnitReference
requested_from units queue [] = queue
requested_from units queue (g ∷ gs) = requested_from units
    (if is_already_known units queue g.name then queue else queue ++ g ∷ []) gs

-- a unit in a slot of the host has the name that the record requests, or it is in the queue, where
-- the record is a UNITREF
abbrev pub IsAlreadyKnown : List (List ℕ × ℕ) → List UnitReference → LinkRecord → Type 0
IsAlreadyKnown units queue r = is_unit_reference r.body ≡ true
    → is_already_known units queue r.name ≡ true

-- each of the records names a unit that is known, or the queue has MAX_REQUESTED names, of which no
-- more are kept
abbrev pub AreAlreadyKnown : List (List ℕ × ℕ) → List UnitReference → List LinkRecord
    → Type 0
AreAlreadyKnown units queue rs =
    (MAX_REQUESTED ≤ length queue) ⊎ All (IsAlreadyKnown units queue) rs

-- the slots that units may be added in, ascending
unfoldable pub empty_slots : Order → List ℕ → List ℕ
empty_slots order host = filter (is_role is_empty order host) (range_with_len FIRST_ADDED MAX_ADDED)

-- the request of a name that takes this slot
abbrev pub request_of : UnitReference → ℕ → Request
request_of g slot = record
    { name = g.name; slot = slot; requester = Record g.at }

-- the segment that the name brings into this slot
abbrev pub added_segment : Order → List ℕ → List (List ℕ) → UnitReference → ℕ
    → Option Segment
added_segment order host libs g slot = requested_segment order host libs (request_of g slot)

-- The segments that are added from round k on, with the slots that are left: the k-th name of the
-- queue takes the next slot, and the names that its unit requests are appended to the queue. They
-- end where no name or no slot is left, or a name brings no segment.
abbrev pub added_from : Order → List ℕ → List (List ℕ) → List (List ℕ × ℕ)
    → List ℕ → ℕ → List UnitReference → List Segment
added_from order host libs units [] k queue = []
added_from order host libs units (slot ∷ left) k queue =
    elim (option_and_then (λ g. added_segment order host libs g slot) (slice_get queue k)) [
      | None ↦ []
      | Some s ↦ s ∷ added_from order host libs units left (k + 1)
          (requested_from units queue (unit_references s.file s.slot 0 s.records))
    ]

-- the names that are requested by the host's own segments and then by these
unfoldable pub requested_units : Order → List ℕ → List (List ℕ) → List Segment
    → List UnitReference
requested_units order host libs others =
    let own = own_segments order host libs in
    requested_from (units_of own) [] (all_unit_references (own ++ others))

-- the segments that are added, in the order of their rounds and so of their slots
unfoldable pub added_segments : Order → List ℕ → List (List ℕ) → List Segment
added_segments order host libs =
    let own = own_segments order host libs in
    added_from order host libs (units_of own) (empty_slots order host) 0
    (requested_from (units_of own) [] (all_unit_references own))

-- the segment that was added in an empty slot
abbrev pub added_at : Order → List ℕ → List (List ℕ) → ℕ → Option Segment
added_at order host libs slot = if is_role is_empty order host slot
    then find (λ s. s.slot == slot) (added_segments order host libs) else None

-- the slot's own segment, or the one that was added there
abbrev pub segment_at : Order → List ℕ → List (List ℕ) → ℕ → Option Segment
segment_at order host libs slot = option_or (own_segment order host libs slot)
    (added_at order host libs slot)

-- all segments of a link, by slot
unfoldable pub segments : Order → List ℕ → List (List ℕ) → List Segment
segments order host libs = filter_map (segment_at order host libs) slots

-- the name of a slot in the linked file: that of the segment that is there, which an added one has
-- of its UNITREF, or the host's
abbrev pub slot_name : List ℕ → List Segment → ℕ → List ℕ
slot_name host segs slot = option_map_or (λ s. s.name) (find (λ s. s.slot == slot) segs)
    (name_at host slot)

-- the names of the sixteen slots of the linked file
unfoldable pub slot_names : List ℕ → List Segment → List (List ℕ)
slot_names host segs = map (slot_name host segs) slots

-- The rounds up to their first fault, as they are computed. Where they end without one, they add the
-- segments that are added; else these begin with theirs.

-- the fault of a name for which no slot is left
abbrev pub unplaced_fault : Order → List (List ℕ) → UnitReference → Fault
unplaced_fault order libs g = in_record g.at.segment.file g.at.segment.slot g.at.rec
    (if is_missing order libs g.name then reason.MissingUnit else reason.NoSlot)

-- the first fault of a name that takes this slot
abbrev pub placed_fault : Order → List ℕ → List (List ℕ) → UnitReference → ℕ
    → Option Fault
placed_fault order host libs g slot = request_fault order host libs (request_of g slot)

-- what the rounds from one on come to: the segments that they add, and the fault that ends them
pub record RoundsOutcome : Type 0 where
  pub added : List Segment
  pub fault : Option Fault

-- the rounds that begin with a round which adds this segment
abbrev pub after : Segment → RoundsOutcome → RoundsOutcome
after s later = record { added = s ∷ later.added; fault = later.fault }

-- The rounds from round k on, with the slots that are left: the k-th name of the queue takes the
-- next slot, and the names that its unit requests are appended to the queue. They end where no name
-- is left, or with the first fault.
abbrev pub rounds_from : Order → List ℕ → List (List ℕ) → List (List ℕ × ℕ)
    → List ℕ → ℕ → List UnitReference → RoundsOutcome
rounds_from order host libs units [] k queue =
    record { added = []; fault = option_map (unplaced_fault order libs) (slice_get queue k) }
rounds_from order host libs units (slot ∷ left) k queue =
    elim (slice_get queue k) [
      | None ↦ record { added = []; fault = None }
      | Some g ↦ elim (placed_fault order host libs g slot) [
        | Some fault ↦ record { added = []; fault = Some fault }
        | None ↦ elim (added_segment order host libs g slot) [
          | None ↦ record { added = []; fault = None }
          | Some s ↦ after s (rounds_from order host libs units left (k + 1)
              (requested_from units queue (unit_references s.file s.slot 0 s.records)))
        ]
      ]
    ]

-- the rounds of own segments, with these slots
abbrev pub rounds_in : Order → List ℕ → List (List ℕ) → List Segment → List ℕ
    → RoundsOutcome
rounds_in order host libs own left = rounds_from order host libs (units_of own) left 0
    (requested_from (units_of own) [] (all_unit_references own))

-- the rounds of a host whose own segments are these
abbrev pub rounds_of : Order → List ℕ → List (List ℕ) → List Segment → RoundsOutcome
rounds_of order host libs own = rounds_in order host libs own (empty_slots order host)

-- the rounds of a host and its libraries
unfoldable pub rounds : Order → List ℕ → List (List ℕ) → RoundsOutcome
rounds order host libs = rounds_of order host libs (own_segments order host libs)

-- the first fault of the rounds
abbrev pub added_fault : Order → List ℕ → List (List ℕ) → Option Fault
added_fault order host libs = (rounds order host libs).fault
