-- The segments of a link as they were read: of each slot of the host its segment, also where it is
-- refused, and then the first unit for which no slot is left.
use Rattle.std.specs.Prelude.{ℕ, ◌&&◌, if◌then◌else◌, List, [], ◌++◌, length, nat_lt, slice_get, Bool, true, false, Option, Some, None, Result, Ok, Err, filter_map, option_and_then}
use Rattle.std.specs.List.{cons_option, list_any}
use Rattle.std.specs.Option.{option_map}
use Rattle.std.specs.Result.{is_ok}
use Rattle.std.specs.Str.{bytes_eq}
use Rattle.ps_words.specs.declared.fault.Fault.{Fault}
use Rattle.ps_words.specs.declared.fault.Reason.{Reason}
use Rattle.ps_codefile.specs.Dictionary.{OpenedFile, code_of, entry_at, information_of, opened_beside, role_of, slots}
use Rattle.ps_codefile.specs.declared.entry.Role.{Role}
use Rattle.ps_codefile.specs.declared.entry.Role.TheVariants as role
use Rattle.ps_linkinfo.specs.Records.{reading}
use Rattle.ps_linkinfo.specs.declared.record.LinkRecord.{LinkRecord as Record}
use Rattle.ps_resolve.specs.Added.{empty_slots}
use Rattle.ps_resolve.specs.Readings.{HostFiles, all_read, opened_host, read_requests}
use Rattle.ps_resolve.specs.SlotReadings.{outcome_in, reading_in, request_in, source_in}
use Rattle.ps_resolve.specs.Sources.{Segment, file_at, opened_files}
use Rattle.ps_reading.specs.declared.reading.added.UnitReference.{UnitReference}
use Rattle.ps_reading.specs.declared.reading.request.Request.{Request}
use Rattle.ps_reading.specs.declared.reading.request.Requester.{Requester}
use Rattle.ps_reading.specs.declared.reading.request.Requester.TheVariants as by
use Rattle.ps_check_segments.specs.Paths.{host_order}
use Rattle.ps_check_segments.specs.Seen.{Origin, Seen, part_needs_linking}
use Rattle.ps_check_segments.specs.SegmentParts.{added_by, part_as}
use Rattle.ps_reading.specs.declared.slot_reading.Absent.{Absent}
use Rattle.ps_reading.specs.declared.slot_reading.Absent.TheVariants as absent
use Rattle.ps_check_segments.specs.declared.segments.SegmentPart.{SegmentPart}
use Rattle.ps_check_segments.specs.declared.segments.SegmentPart.TheVariants as part
use Rattle.ps_codefile.specs.declared.dictionary_layout.TheConstants.{SLOTS}

-- 1. what a reading has: the segments that were read, by slot, the names that are requested, and of a
-- slot its role
abbrev pub segments_in : HostFiles → List Segment
segments_in h = all_read h.order h.file (opened_files h.order h.libs)

abbrev pub requests_in : HostFiles → List UnitReference
requests_in h = read_requests h.order h.file (opened_files h.order h.libs)

abbrev pub role_in : HostFiles → ℕ → Result Role Reason
role_in h slot = role_of (entry_at h.order h.file slot)

-- 2. the units of the host that are refused: where a record requests one, the reading takes it as
-- another
abbrev pub is_for_unit : Result Role Reason → Bool
is_for_unit (Ok role.Unit) = true
is_for_unit (Ok role.Wanted) = true
is_for_unit (Ok role.Empty) = false
is_for_unit (Ok role.Plain) = false
is_for_unit (Ok role.Host) = false
is_for_unit (Err why) = false

abbrev pub is_fault : Option (Result Segment Fault) → Bool
is_fault None = false
is_fault (Some (Ok s)) = false
is_fault (Some (Err f)) = true

-- the slot has or wants a unit of this name, which is refused
abbrev pub is_refused_unit : HostFiles → List ℕ → ℕ → Bool
is_refused_unit h name slot = is_fault (reading_in h slot) && (is_for_unit (role_in h slot)
    && bytes_eq (entry_at h.order h.file slot).name name)

unfoldable pub is_of_host : HostFiles → List ℕ → Bool
is_of_host h name = list_any (is_refused_unit h name) slots

-- 3. a segment that was read without a fault of its own
abbrev pub seen_as : HostFiles → Segment → SegmentPart → Seen
seen_as h s what = record {
  slot = Some s.slot;
  name = s.name;
  part = what;
  origin = Ok (record { file = s.file; index = s.index; size = length s.code });
  file = Some s.file;
  records = s.records;
}

unfoldable pub seen_segment : HostFiles → Segment → Seen
seen_segment h s = seen_as h s (part_as (segments_in h) (requests_in h) s s.role)

-- one that was added for a unit of the host that is refused is none
unfoldable pub seen_read : HostFiles → Segment → Option Seen
seen_read h s = if s.added && is_of_host h s.name then None else Some (seen_segment h s)

-- 4. a segment that is refused, or that was not looked for
-- the name of a slot whose entry has this one and that has this request
abbrev pub name_by : List ℕ → Option Request → List ℕ
name_by name None = name
name_by name (Some r) = r.name

abbrev pub name_of_slot : HostFiles → ℕ → List ℕ
name_of_slot h slot = name_by (entry_at h.order h.file slot).name (request_in h slot)

-- what a unit is that is requested; none where it is one of the host's that is refused
abbrev pub part_by : HostFiles → List ℕ → Requester → Option SegmentPart
part_by h name by.Slot = Some part.Wanted
part_by h name (by.Record place) = if is_of_host h name then None
    else Some (added_by (segments_in h) place)

-- what the segment of a slot of this role is, that is not requested
abbrev pub part_of_role : Result Role Reason → Option SegmentPart
part_of_role (Ok role.Plain) = Some part.Plain
part_of_role (Ok role.Host) = Some part.Host
part_of_role (Ok role.Unit) = Some part.Unit
part_of_role (Ok role.Empty) = None
part_of_role (Ok role.Wanted) = None
part_of_role (Err why) = None

-- what the segment of a slot of this role is, that has this request; none where there is none
abbrev pub part_for : HostFiles → Result Role Reason → Option Request → Option SegmentPart
part_for h role None = part_of_role role
part_for h role (Some r) = part_by h r.name r.requester

abbrev pub part_in : HostFiles → ℕ → Option SegmentPart
part_in h slot = part_for h (role_in h slot) (request_in h slot)

-- the records that can be read at an entry of a file that was opened, if it has a code
abbrev pub records_at : ℕ → OpenedFile → List Record
records_at index f = let e = entry_at f.order f.file index in
    if is_ok (code_of f.file e) then (reading f.order (information_of f.file e)).0 else []

-- where a segment comes from, and the records there; no library that is not opened has it
abbrev pub origin_in : ℕ → ℕ → Result OpenedFile Reason
    → Result (Origin × List Record) Absent
origin_in file index (Ok f) =
    Ok (
      record { file = file; index = index; size = (entry_at f.order f.file index).length },
      records_at index f,
    )
origin_in file index (Err why) = Err absent.Missing

-- where a segment comes from, and its records: an entry of a host or a library, which is read in
-- the host's order
unfoldable pub origin_of : List ℕ → List (List ℕ) → ℕ × ℕ
    → Result (Origin × List Record) Absent
origin_of host libs at = if nat_lt at.1 SLOTS
    then origin_in at.0 at.1 (opened_beside (host_order host) (file_at host libs at.0))
    else Err absent.Missing

-- of one that comes from no entry this says why
abbrev pub origin_at : List ℕ → List (List ℕ) → Option (ℕ × ℕ) → Absent
    → Result (Origin × List Record) Absent
origin_at host libs None why = Err why
origin_at host libs (Some at) why = origin_of host libs at

-- what is seen of a segment that comes from there
abbrev pub place_from : Result (Origin × List Record) Absent → Result Origin Absent
place_from (Ok origin) = Ok origin.0
place_from (Err why) = Err why

abbrev pub file_from : Result (Origin × List Record) Absent → Option ℕ
file_from (Ok origin) = Some origin.0.file
file_from (Err why) = None

abbrev pub records_from : Result (Origin × List Record) Absent → List Record
records_from (Ok origin) = origin.1
records_from (Err why) = []

unfoldable pub seen_with : Option ℕ → List ℕ → SegmentPart
    → Result (Origin × List Record) Absent → Seen
seen_with slot name what origin = record {
  slot = slot;
  name = name;
  part = what;
  origin = place_from origin;
  file = file_from origin;
  records = if part_needs_linking what then records_from origin else [];
}

-- what is seen of the segment of a slot that was not read, for this reason
unfoldable pub seen_absent : List ℕ → List (List ℕ) → HostFiles → ℕ → Absent → Option Seen
seen_absent host libs h slot why = option_map (λ what. seen_with (Some slot)
    (name_of_slot h slot) what (origin_at host libs (source_in h slot) why)) (part_in h slot)

-- 5. what is seen of the segment of a slot, which is this, or is not there for a reason
abbrev pub seen_by_outcome : List ℕ → List (List ℕ) → HostFiles → ℕ
    → Option (Result Segment Absent) → Option Seen
seen_by_outcome host libs h slot (Some (Ok s)) = seen_read h s
seen_by_outcome host libs h slot (Some (Err why)) = seen_absent host libs h slot why
seen_by_outcome host libs h slot None = None

unfoldable pub seen_in : List ℕ → List (List ℕ) → HostFiles → ℕ → Option Seen
seen_in host libs h slot = seen_by_outcome host libs h slot (outcome_in h slot)

-- what is seen of a unit that is requested and for which no slot is left
abbrev pub seen_unit : HostFiles → UnitReference → Option Seen
seen_unit h u = if is_of_host h u.name then None
    else Some (seen_with None u.name (added_by (segments_in h) u.at) (Err absent.Unplaced))

-- what is seen of the unit of the first requested name for which no slot is left
unfoldable pub unplaced : HostFiles → Option Seen
unplaced h = option_and_then (seen_unit h)
    (slice_get (requests_in h) (length (empty_slots h.order h.file)))

-- what is seen of all of them, by slot
unfoldable pub seen_of : List ℕ → List (List ℕ) → HostFiles → List Seen
seen_of host libs h = filter_map (seen_in host libs h) slots ++ cons_option (unplaced h) []

-- what is seen of the segments of a link, whose host can be read or not
abbrev pub seen_by : List ℕ → List (List ℕ) → Result HostFiles Reason → List Seen
seen_by host libs (Ok h) = seen_of host libs h
seen_by host libs (Err why) = []

abbrev pub seen_segments : List ℕ → List (List ℕ) → List Seen
seen_segments host libs = seen_by host libs (opened_host host libs)
