-- Requests for a unit: who requests it, the slot that it takes, when it is missing, and its
-- segment.
use Rattle.std.specs.Prelude.{ℕ, ◌||◌, List, Bool, true, Option, is_none, option_and_then, option_map}
use Rattle.ps_words.specs.FaultPlaces.{in_record, in_slot}
use Rattle.ps_words.specs.declared.order.Order.{Order}
use Rattle.ps_words.specs.declared.fault.Reason.TheVariants as reason
use Rattle.ps_words.specs.declared.fault.Fault.{Fault}
use Rattle.ps_codefile.specs.Dictionary.{entry_at, is_nameless}
use Rattle.ps_codefile.specs.declared.entry.Role.TheVariants.{Wanted}
use Rattle.ps_reading.specs.Sources.{Segment, segment_from, unit_source, chosen_library}
use Rattle.ps_reading.specs.declared.reading.request.Request.{Request}
use Rattle.ps_reading.specs.declared.reading.request.Requester.{Requester}
use Rattle.ps_reading.specs.declared.reading.request.Requester.TheVariants.{Slot, Record}

-- nothing has this name, or no library has a filled entry of it
abbrev pub is_missing : Order → List (List ℕ) → List ℕ → Bool
is_missing order libs name = is_nameless name || is_none (chosen_library order name libs)

-- the place of the fault of a unit that is missing: the slot that wants it, or the record
abbrev pub missing_at : ℕ → Requester → Fault
missing_at slot Slot = in_slot 0 slot reason.MissingUnit
missing_at slot (Record place) =
    in_record place.segment.file place.segment.slot place.rec reason.MissingUnit

-- the request of a slot of the host, for the unit of its name
abbrev pub request_by_slot : Order → List ℕ → ℕ → Request
request_by_slot order host slot = record
    { name = (entry_at order host slot).name; slot = slot; requester = Slot }

-- the segment, marked as added
abbrev pub as_added : Segment → Segment
as_added s = record s { added = true }

-- the segment, as it is requested: one that a record requests is added
abbrev pub as_requested : Requester → Segment → Segment
as_requested Slot s = s
as_requested (Record place) s = as_added s

-- the segment that a request brings into its slot
abbrev pub requested_segment : Order → List ℕ → List (List ℕ) → Request → Option Segment
requested_segment order host libs r =
    option_map (as_requested r.requester)
    (option_and_then (segment_from order host libs r.slot r.name Wanted)
    (unit_source order r.name libs))
