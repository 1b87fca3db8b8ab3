-- What was read of a slot of a host: where its segment comes from, and its segment, or why it has
-- none.
use Rattle.std.specs.Prelude.{ℕ, ◌&&◌, if◌then◌else◌, Bool, Option, Some, None, Result, Ok, Err, is_some}
use Rattle.ps_words.specs.declared.fault.Fault.{Fault}
use Rattle.ps_reading.specs.Readings.{HostFiles, host_reading_fault, slot_entry, slot_reading, slot_request}
use Rattle.ps_reading.specs.Sources.{Segment, opened_files}
use Rattle.ps_reading.specs.declared.reading.request.Request.{Request}
use Rattle.ps_reading.specs.declared.slot_reading.Absent.{Absent}
use Rattle.ps_reading.specs.declared.slot_reading.Absent.TheVariants as absent

-- what a reading has: its first fault, and of a slot what was read of it, its request, and the entry
-- that it comes from, also where it is refused
abbrev pub first_in : HostFiles → Option Fault
first_in h = host_reading_fault h.order h.file h.libs

abbrev pub reading_in : HostFiles → ℕ → Option (Result Segment Fault)
reading_in h slot = slot_reading h.order h.file (opened_files h.order h.libs) slot

abbrev pub request_in : HostFiles → ℕ → Option Request
request_in h slot = slot_request h.order h.file (opened_files h.order h.libs) slot

abbrev pub entry_in : HostFiles → ℕ → Option (ℕ × ℕ)
entry_in h slot = slot_entry h.order h.file (opened_files h.order h.libs) slot

-- the file and the entry that the segment of a slot comes from, of which this was read, or this entry
-- is refused
abbrev pub source_by : Option (Result Segment Fault) → Option (ℕ × ℕ) → Option (ℕ × ℕ)
source_by None refused = None
source_by (Some (Ok s)) refused = Some (s.file, s.index)
source_by (Some (Err f)) refused = refused

abbrev pub source_in : HostFiles → ℕ → Option (ℕ × ℕ)
source_in h slot = source_by (reading_in h slot) (entry_in h slot)

-- why a segment is refused that comes from this entry, or from none: no library has it then
abbrev pub why_refused : Option (ℕ × ℕ) → Fault → Absent
why_refused None f = absent.Missing
why_refused (Some entry) f = absent.Refused f

-- a unit is requested for a slot, and there is a fault: if nothing was read of the slot, the unit was
-- not looked for
abbrev pub is_left : HostFiles → ℕ → Bool
is_left h slot = is_some (request_in h slot) && is_some (first_in h)

-- the segment of a slot, or why it has none, of which this was read
abbrev pub outcome_by : HostFiles → ℕ → Option (Result Segment Fault)
    → Option (Result Segment Absent)
outcome_by h slot (Some (Ok s)) = Some (Ok s)
outcome_by h slot (Some (Err f)) = Some (Err (why_refused (entry_in h slot) f))
outcome_by h slot None = if is_left h slot then Some (Err absent.NotLookedFor) else None

abbrev pub outcome_in : HostFiles → ℕ → Option (Result Segment Absent)
outcome_in h slot = outcome_by h slot (reading_in h slot)
