-- What a report says of each segment of a link: its slot and its name, what it is, and where its
-- code comes from.
use Rattle.std.specs.Prelude.{ℕ, if◌then◌else◌, Bool, true, false, List, [], ◌∷◌, ◌++◌, Option, Some, None, Result, Ok, Err, is_some, length, map, codes, decimal}
use Rattle.std.specs.List.{flat_map, list_any}
use Rattle.std.specs.Result.{is_err}
use Rattle.ps_codefile.specs.Dictionary.{opened_beside}
use Rattle.ps_resolve.specs.Sources.{Segment, opened_files, order_of}
use Rattle.ps_resolve.specs.Added.{segments}
use Rattle.ps_resolve.specs.Readings.{read_requests}
use Rattle.ps_reading.specs.declared.reading.added.UnitReference.{UnitReference}
use Rattle.ps_filetype.specs.Shown.{shown_name, shown_path, slot_digits}
use Rattle.ps_check_segments.specs.SegmentParts.{absence_words, part_as, part_words}
use Rattle.ps_check_segments.specs.Paths.{host_order, path_of}
use Rattle.ps_check_segments.specs.Seen.{Origin, Seen}
use Rattle.ps_reading.specs.declared.slot_reading.Absent.{Absent}
use Rattle.ps_reading.specs.declared.slot_reading.Absent.TheVariants as absent
use Rattle.ps_check_segments.specs.declared.segments.SegmentPart.{SegmentPart}

-- `slot 08 UTIL: a unit that record 0 of MAIN requests`, or `no slot UTIL: ..`
abbrev pub slot_words : Option ℕ → List ℕ
slot_words None = codes "no slot"
slot_words (Some slot) = codes "slot " ++ slot_digits slot

abbrev pub head_words : Option ℕ → List ℕ → SegmentPart → List ℕ
head_words slot name what = slot_words slot
    ++ (32 ∷ (shown_name name ++ (codes ": " ++ part_words what)))

-- `, from LIB entry 03, 24 bytes`
abbrev pub from_words : List ℕ → ℕ → ℕ → List ℕ
from_words path index size = codes ", from "
    ++ (shown_path path ++ (codes " entry "
    ++ (slot_digits index ++ (codes ", " ++ (decimal size ++ codes " bytes")))))

-- `slot 08 UTIL: a unit that record 0 of MAIN requests, from LIB entry 03, 24 bytes`
unfoldable pub segment_line : List (List ℕ) → List Segment → List UnitReference → Segment
    → List ℕ
segment_line paths segs requests s =
    head_words (Some s.slot) s.name (part_as segs requests s s.role)
    ++ from_words (path_of paths s.file) s.index (length s.code)

-- the lines of these segments, by slot
abbrev pub lines_of_segments : List (List ℕ) → List Segment → List UnitReference
    → List (List ℕ)
lines_of_segments paths segs requests = map (segment_line paths segs requests) segs

-- the line of each segment of a link, by slot; the first path is the host's
abbrev pub segment_lines : List (List ℕ) → List ℕ → List (List ℕ) → List (List ℕ)
segment_lines paths host libs =
    let order = order_of host in
    lines_of_segments paths (segments order host libs)
    (read_requests order host (opened_files order libs))

-- some library cannot be read beside the host
abbrev pub has_unread : List ℕ → List (List ℕ) → Bool
has_unread host libs = list_any (λ lib. is_err (opened_beside (host_order host) lib)) libs

-- why a segment comes from nowhere; a library that cannot be read may have the unit
abbrev pub why_words : Bool → Absent → List ℕ
why_words false why = absence_words why
why_words true absent.Missing = codes ", which no library that can be read has"
why_words true (absent.Refused f) = absence_words (absent.Refused f)
why_words true absent.Unplaced = absence_words absent.Unplaced
why_words true absent.NotLookedFor = absence_words absent.NotLookedFor

-- where a segment comes from, or why from nowhere, where some library cannot be read or none
abbrev pub origin_words : List (List ℕ) → Bool → Result Origin Absent → List ℕ
origin_words paths unread (Ok o) = from_words (path_of paths o.file) o.index o.size
origin_words paths unread (Err why) = why_words unread why

-- the line of a segment as it was read, also where it is refused
abbrev pub read_line : List (List ℕ) → Bool → Seen → List ℕ
read_line paths unread s = head_words s.slot s.name s.part ++ origin_words paths unread s.origin

-- of one that has a slot
abbrev pub line_in_slot : Option ℕ → List ℕ → List (List ℕ)
line_in_slot slot line = if is_some slot then line ∷ [] else []

-- the line of each segment that was read and has a slot
abbrev pub read_lines : List (List ℕ) → Bool → List Seen → List (List ℕ)
read_lines paths unread list =
    flat_map (λ s. line_in_slot s.slot (read_line paths unread s)) list
