-- What files have, as values: those of a file, and those of each of its segments.
use Rattle.std.specs.Prelude.{ℕ, ◌==◌, ◌||◌, not, is_none, is_err, if◌then◌else◌, List, [], length, Bool, true, Option, Some, None, Result, Ok, Err}
use Rattle.std.specs.List.{filter_map, list_any}
use Rattle.ps_words.specs.FaultPlaces.{in_file, in_slot}
use Rattle.ps_words.specs.declared.order.Order.{Order}
use Rattle.ps_words.specs.declared.fault.Reason.{Reason}
use Rattle.ps_words.specs.declared.fault.Fault.{Fault}
use Rattle.ps_codefile.specs.Dictionary.{OpenedFile, entry_at, role_of, slots}
use Rattle.ps_codefile.specs.Opened.{opened}
use Rattle.ps_codefile.specs.Roles.{needs_linking}
use Rattle.ps_codefile.specs.declared.entry.Entry.{Entry}
use Rattle.ps_codefile.specs.declared.entry.Role.{Role}
use Rattle.ps_codefile.specs.declared.entry.Role.TheVariants as role
use Rattle.ps_linkinfo.specs.declared.record.LinkRecord.{LinkRecord as Record}
use Rattle.ps_resolve.specs.Faults.{code_fault}
use Rattle.ps_resolve.specs.Sources.{records_of}
use Rattle.ps_filetype.specs.CodeFiles.{code_file}
use Rattle.ps_listing.specs.declared.segments.ListedSegment.{ListedSegment}
use Rattle.ps_listing.specs.declared.listed_file.FileValues.{FileValues}

-- the first fault of the segment in a slot of this role, by itself: of its code, then of one that
-- is to be linked of its tables and its records
abbrev pub fault_alone : Order → List ℕ → ℕ → Role → Option Fault
fault_alone order file slot r = code_fault order file [] slot r (0, slot)

-- these records, or the fault that there is
abbrev pub or_fault : List Record → Option Fault → Result (List Record) Fault
or_fault records None = Ok records
or_fault records (Some f) = Err f

abbrev pub segment_with : ℕ → Entry → Option Role → Option ℕ → Result (List Record) Fault
    → ListedSegment
segment_with slot e r size found = record {
  slot = slot;
  name = e.name;
  kind = e.kind;
  role = r;
  length = size;
  found = found;
}

-- the segment in a slot of this role, whose code the file has
unfoldable pub found_segment : Order → List ℕ → ℕ → Role → ListedSegment
found_segment order file slot r =
    let e = entry_at order file slot in
    segment_with slot e (Some r) (Some e.length)
    (or_fault (records_of order file e (needs_linking r)) (fault_alone order file slot r))

-- the segment in a slot of this role; an empty slot has none, and one whose kind is refused no role
abbrev pub segment_as : Order → List ℕ → ℕ → Result Role Reason → Option ListedSegment
segment_as order file slot (Ok role.Empty) = None
segment_as order file slot (Ok role.Wanted) =
    Some (segment_with slot (entry_at order file slot) (Some role.Wanted) None (Ok []))
segment_as order file slot (Ok role.Plain) = Some (found_segment order file slot role.Plain)
segment_as order file slot (Ok role.Host) = Some (found_segment order file slot role.Host)
segment_as order file slot (Ok role.Unit) = Some (found_segment order file slot role.Unit)
segment_as order file slot (Err why) =
    Some (segment_with slot (entry_at order file slot) None
    (Some (entry_at order file slot).length) (Err (in_slot 0 slot why)))

unfoldable pub segment_at : Order → List ℕ → ℕ → Option ListedSegment
segment_at order file slot = segment_as order file slot (role_of (entry_at order file slot))

-- the segments of a file, by slot: one of which the phrase says that it is something else has none
abbrev pub segments_of : List ℕ → Order → List ℕ → List ListedSegment
segments_of phrase order file = if length phrase == 0
    then filter_map (segment_at order file) slots else []

-- those of a file that was opened; another has none
abbrev pub segments_found : List ℕ → Result OpenedFile Reason → List ListedSegment
segments_found phrase (Ok f) = segments_of phrase f.order f.file
segments_found phrase (Err why) = []

-- the values of a file of so many bytes that was opened, or was not
abbrev pub values_of : ℕ → Result OpenedFile Reason → FileValues
values_of size (Ok f) = record {
  size = Some size;
  order = Some f.order;
  purpose = Some (code_file f.order f.file);
  fault = None;
}
values_of size (Err why) = record {
  size = Some size;
  order = None;
  purpose = None;
  fault = Some (in_file 0 why);
}

-- the values of a file that could not be read
abbrev pub no_values : FileValues
no_values = record { size = None; order = None; purpose = None; fault = None }

-- a segment is refused
abbrev pub is_refused_segment : ListedSegment → Bool
is_refused_segment s = is_err s.found

-- a file of this phrase cannot be read, has no segment, or has one that is refused
abbrev pub is_refused_as : List ℕ → Result OpenedFile Reason → Bool
is_refused_as phrase (Ok f) = is_none (code_file f.order f.file)
    || list_any is_refused_segment (segments_of phrase f.order f.file)
is_refused_as phrase (Err why) = true

-- the list of a file says that the file or a segment is refused, that there is none, or, by the
-- phrase, that the file is something else
unfoldable pub is_refused : List ℕ → List ℕ → Bool
is_refused phrase file = not (length phrase == 0) || is_refused_as phrase (opened file)
