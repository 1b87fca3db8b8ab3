-- The segments of a link as they were read, as far as findings about the link depend on them.
use Rattle.std.specs.Prelude.{ℕ, ◌==◌, List, Bool, true, false, Option, Some, None, Result, Ok, Err}
use Rattle.std.specs.List.{find}
use Rattle.std.specs.Option.{option_map, option_map_or}
use Rattle.ps_linkinfo.specs.declared.record.LinkRecord.{LinkRecord as Record}
use Rattle.ps_reading.specs.declared.slot_reading.Absent.{Absent}
use Rattle.ps_check_segments.specs.declared.segments.SegmentPart.{SegmentPart}
use Rattle.ps_check_segments.specs.declared.segments.SegmentPart.TheVariants as part
use Rattle.ps_check_segments.specs.declared.segments.ReadSegment.{ReadSegment}
use Rattle.ps_check_segments.specs.declared.segments.Source.{Source}

-- where a segment comes from: its file, its entry there, and the length of its code
pub record Origin : Type 0 where
  pub file : ℕ
  pub index : ℕ
  pub size : ℕ

-- what is seen of a segment: its slot in the host, its name, what it is, where it comes from or why
-- it comes from nowhere, its file, and its records, up to the first that cannot be read
pub record Seen : Type 0 where
  pub slot : Option ℕ
  pub name : List ℕ
  pub part : SegmentPart
  pub origin : Result Origin Absent
  pub file : Option ℕ
  pub records : List Record

-- the references of the segment are resolved
abbrev pub part_needs_linking : SegmentPart → Bool
part_needs_linking part.Plain = false
part_needs_linking part.Host = true
part_needs_linking part.Unit = true
part_needs_linking part.Wanted = true
part_needs_linking (part.Added requester rec) = true

-- where a segment comes from
abbrev pub origin_by : Result Source Absent → Result Origin Absent
origin_by (Ok o) =
    Ok (record { file = o.at.file; index = o.at.index; size = o.length })
origin_by (Err why) = Err why

abbrev pub file_by : Result Source Absent → Option ℕ
file_by (Ok o) = Some o.at.file
file_by (Err why) = None

abbrev pub seen : ReadSegment → Seen
seen s = record {
  slot = s.slot;
  name = s.name;
  part = s.part;
  origin = origin_by s.source;
  file = file_by s.source;
  records = s.records;
}

-- the segment has this slot of the host
abbrev pub has_slot : ℕ → Seen → Bool
has_slot slot s = option_map_or (λ k. k == slot) s.slot false

-- the segment is the host program
abbrev pub is_host_part : SegmentPart → Bool
is_host_part part.Plain = false
is_host_part part.Host = true
is_host_part part.Unit = false
is_host_part part.Wanted = false
is_host_part (part.Added requester rec) = false

-- the records of the host program, if the link has one
abbrev pub host_records : List Seen → Option (List Record)
host_records list = option_map (λ s. s.records) (find (λ s. is_host_part s.part) list)
