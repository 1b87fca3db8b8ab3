-- What a segment of a link is, and why one comes from nowhere, in words.
use Rattle.std.specs.Prelude.{ℕ, ◌==◌, if◌then◌else◌, List, ◌++◌, Bool, true, false, Option, Some, None, codes, decimal}
use Rattle.std.specs.List.{find}
use Rattle.std.specs.Option.{option_map_or}
use Rattle.std.specs.Str.{bytes_eq}
use Rattle.ps_codefile.specs.declared.entry.Role.{Role}
use Rattle.ps_codefile.specs.declared.entry.Role.TheVariants as role
use Rattle.ps_resolve.specs.Sources.{Segment}
use Rattle.ps_reading.specs.declared.locations.RecordAt.{RecordAt}
use Rattle.ps_reading.specs.declared.reading.added.UnitReference.{UnitReference}
use Rattle.ps_filetype.specs.Shown.{shown_name}
use Rattle.ps_reading.specs.declared.slot_reading.Absent.{Absent}
use Rattle.ps_reading.specs.declared.slot_reading.Absent.TheVariants as absent
use Rattle.ps_check_segments.specs.declared.segments.SegmentPart.{SegmentPart}
use Rattle.ps_check_segments.specs.declared.segments.SegmentPart.TheVariants as part

-- a unit that this record requests, where the record is in one of these segments; else one that the
-- host wants
abbrev pub added_by : List Segment → RecordAt → SegmentPart
added_by segs at = option_map_or (λ s. part.Added s.name at.rec)
    (find (λ s. s.slot == at.segment.slot) segs) part.Wanted

-- a unit that is added for this record, the first that requests its name
abbrev pub part_added : List Segment → Option UnitReference → SegmentPart
part_added segs None = part.Wanted
part_added segs (Some requester) = added_by segs requester.at

-- the first record that requests a unit of this name, among those of all names that are requested
abbrev pub requester_of : List UnitReference → List ℕ → Option UnitReference
requester_of requests name = find (λ g. bytes_eq g.name name) requests

-- what a segment of this role is, among all segments; one that was added is a unit that the first
-- record requests which has its name
abbrev pub part_as : List Segment → List UnitReference → Segment → Role → SegmentPart
part_as segs requests s role.Plain = part.Plain
part_as segs requests s role.Host = part.Host
part_as segs requests s role.Unit = part.Unit
part_as segs requests s role.Empty = part.Wanted
part_as segs requests s role.Wanted = if s.added then part_added segs (requester_of requests s.name)
    else part.Wanted

-- what a segment is
abbrev pub part_words : SegmentPart → List ℕ
part_words part.Plain = codes "linked already, copied as it is"
part_words part.Host = codes "the host program"
part_words part.Unit = codes "a unit in the host file"
part_words part.Wanted = codes "a unit that the host wants"
part_words (part.Added requester rec) = codes "a unit that record "
    ++ (decimal rec ++ (codes " of " ++ (shown_name requester ++ codes " requests")))

-- why a segment comes from nowhere
abbrev pub absence_words : Absent → List ℕ
absence_words (absent.Refused f) = codes ", refused"
absence_words absent.Missing = codes ", which no library has"
absence_words absent.Unplaced = codes ", for which no slot is left"
absence_words absent.NotLookedFor = codes ", not looked for after the fault"

-- a record requests the unit
abbrev pub is_added : SegmentPart → Bool
is_added part.Plain = false
is_added part.Host = false
is_added part.Unit = false
is_added part.Wanted = false
is_added (part.Added requester rec) = true

-- the segment is a unit
abbrev pub is_unit : SegmentPart → Bool
is_unit part.Plain = false
is_unit part.Host = false
is_unit part.Unit = true
is_unit part.Wanted = true
is_unit (part.Added requester rec) = true
