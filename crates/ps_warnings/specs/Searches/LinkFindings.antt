-- How a check searches the segments of a link as they were read, in their order; no contract of
-- another crate cites it.
use Rattle.std.specs.Prelude.{ℕ, ◌&&◌, if◌then◌else◌, List, nat_lt, Bool, Option, Some, None}
use Rattle.std.specs.List.{find}
use Rattle.std.specs.Option.{option_map}
use Rattle.ps_words.specs.declared.order.Order.{Order}
use Rattle.ps_codefile.specs.Dictionary.{entry_at}
use Rattle.ps_codefile.specs.declared.entry.Entry.{Entry}
use Rattle.ps_filetype.specs.Names.{is_respelled}
use Rattle.ps_check_segments.specs.SegmentParts.{is_added, is_unit}
use Rattle.ps_check_segments.specs.declared.segments.SegmentPart.{SegmentPart}
use Rattle.ps_warnings.specs.Warned.{names_segment}
use Rattle.ps_check_segments.specs.Seen.{Seen}
use Rattle.ps_warnings.specs.declared.finding.LinkFinding.TheVariants as finding
use Rattle.ps_warnings.specs.declared.finding.Finding.{Finding}
use Rattle.ps_warnings.specs.declared.finding.Finding.TheVariants as which
use Rattle.ps_codefile.specs.declared.dictionary_layout.TheConstants.{SLOTS}

-- a unit that a record requests takes a slot whose entry in the host has a name or a kind
abbrev pub taken_slot : ℕ → SegmentPart → Entry → Option Finding
taken_slot slot what e = if is_added what && names_segment e
    then Some (which.Link (finding.TakenSlot slot e.name)) else None

-- a unit with this slot of the host takes it from such an entry; one without a slot takes none
abbrev pub taken_by : Order → List ℕ → Option ℕ → SegmentPart → Option Finding
taken_by order host None what = None
taken_by order host (Some slot) what = if nat_lt slot SLOTS
    then taken_slot slot what (entry_at order host slot) else None

-- the segment is a unit of another name that differs in capitals or padding alone
abbrev pub is_near_unit : List ℕ → Seen → Bool
is_near_unit name s = is_unit s.part && is_respelled s.name name

-- the first of the segments before a unit that is a unit of such a name
abbrev pub other_spelling : List Seen → Seen → Option Finding
other_spelling earlier s = if is_unit s.part
    then option_map (λ o. which.Link (finding.OtherSpelling o.name))
    (find (is_near_unit s.name) earlier) else None
