-- How a check searches a file, in the records of its segments, in its entries, and where entries
-- overlap; no contract of another crate cites it. Each file is looked at with the records of the host
-- program.
use Rattle.std.specs.Prelude.{ℕ, Bool, ◌+◌, ◌*◌, ◌==◌, ◌&&◌, if◌then◌else◌, List, [], ◌++◌, map, nat_lt, false, true, Option, Some, None, Result, Ok, Err, bytes_eq}
use Rattle.std.specs.List.{flat_map, list_any}
use Rattle.std.specs.Option.{option_map_or}
use Rattle.std.specs.Result.{is_ok, result_ok}
use Rattle.ps_words.specs.declared.fault.Reason.{Reason}
use Rattle.ps_words.specs.declared.order.Order.{Order}
use Rattle.ps_codefile.specs.Dictionary.{slots, code_of, entry_at, information_of, is_filled, kind_needs_linking, opened_beside, role_of}
use Rattle.ps_codefile.specs.declared.entry.Entry.{Entry}
use Rattle.ps_linkinfo.specs.Numbered.{numbered_records}
use Rattle.ps_linkinfo.specs.Records.{reading}
use Rattle.ps_linkinfo.specs.declared.record.LinkRecord.{LinkRecord as Record}
use Rattle.ps_warnings.specs.Searches.EntryFindings.{empty_finding, overlap}
use Rattle.ps_warnings.specs.Found.{Stated, found_at, found_in_record}
use Rattle.ps_warnings.specs.Searches.RecordFindings.{end_mark, first_above, first_definition, first_past, first_public, low_mark}
use Rattle.ps_warnings.specs.SegmentSizes.{data_size, information_end}
use Rattle.ps_check_segments.specs.Seen.{Seen, has_slot}
use Rattle.ps_warnings.specs.declared.findings.extents.Extent.{Extent}
use Rattle.ps_codefile.specs.declared.dictionary_layout.TheConstants.{SLOTS}

-- what looks wrong in the definitions of a segment: of a host program its end mark and the first
-- that is too high, of a unit the first that is missed and the first other one, by what the host
-- program of the link defines
unfoldable pub definition_findings : List ℕ → Option (List ℕ) → Option (List Record) → ℕ
    → Option ℕ → List Record → List Stated
definition_findings path segment host kind size rs = if kind == 1
    then found_at path segment None (low_mark (end_mark rs) size)
    ++ found_in_record path segment (first_above rs)
    else found_in_record path segment (first_definition true rs host (numbered_records 0 rs))
    ++ found_in_record path segment (first_definition false rs host (numbered_records 0 rs))

-- what looks wrong in the records of a segment that has this name, this kind and this code
unfoldable pub findings_of_records : List ℕ → Option (List Record) → Order → Entry → List ℕ
    → List Record → List Stated
findings_of_records path host order e code rs =
    found_in_record path (Some e.name) (first_past code (numbered_records 0 rs))
    ++ found_in_record path (Some e.name) (first_public code host (numbered_records 0 rs))
    ++ definition_findings path (Some e.name) host e.kind (data_size order code) rs

-- what looks wrong in a segment, of which a link reads the records if it is the host program or a
-- unit; nothing where it has no code
unfoldable pub findings_of_segment : List ℕ → Option (List Record) → Order → Entry
    → Result (List ℕ) Reason → List ℕ → List Stated
findings_of_segment path host order e (Err why) after = []
findings_of_segment path host order e (Ok code) after = if kind_needs_linking e.kind
    then findings_of_records path host order e code (reading order after).0 else []

-- what looks wrong in the segment of an entry of a file
abbrev pub findings_of_entry : List ℕ → Option (List Record) → Order → List ℕ → Entry
    → List Stated
findings_of_entry path host order bytes e = findings_of_segment path host order e (code_of bytes e)
    (information_of bytes e)

-- a segment of the link comes from this file and has this name
abbrev pub comes_from : ℕ → List ℕ → Seen → Bool
comes_from file name s = option_map_or (λ f. f == file) s.file false && bytes_eq name s.name

-- the host program that the unit of this name in a file meets in the link: none where the link does
-- not take it
abbrev pub host_met : List Seen → ℕ → List ℕ → Option (List Record)
    → Option (List Record)
host_met list file name host = if list_any (comes_from file name) list then host else None

-- what looks wrong in a slot of a file: in its segment, or, in the host, in an entry that is not
-- filled, which a unit of the link takes or not
unfoldable pub findings_of_slot : List ℕ → Option (List Record) → List Seen → Order
    → List ℕ → ℕ → ℕ → List Stated
findings_of_slot path host list order bytes file slot =
    let e = entry_at order bytes slot in
    if is_filled e
    then findings_of_entry path (host_met list file e.name host) order bytes e
    else (if file == 0 then found_at path None None
    (empty_finding slot (list_any (has_slot slot) list) e (role_of e)) else [])

-- the bytes of a file from one on and before another, which an entry has; nothing
abbrev pub extent : ℕ → ℕ → ℕ → Extent
extent slot start end = record { slot = slot; start = start; end = end }

-- what an entry has of its file: its code, and the link information after it if that is read
abbrev pub extent_of_kind : Order → List ℕ → ℕ → Entry → Extent
extent_of_kind order bytes slot e =
    let start = 512 * e.address in
    if e.kind == 0 then extent slot start (start + e.length)
    else (if kind_needs_linking e.kind then extent slot start (information_end order bytes e)
    else extent 0 0 0)

unfoldable pub extent_at : Order → List ℕ → ℕ → Extent
extent_at order bytes slot = let e = entry_at order bytes slot in
    if is_filled e && is_ok (code_of bytes e) then extent_of_kind order bytes slot e
    else extent 0 0 0

-- the first earlier entry that has bytes of this one
unfoldable pub overlap_finding : List ℕ → Order → List ℕ → List Extent → Extent
    → List Stated
overlap_finding path order bytes extents e = if nat_lt e.slot SLOTS
    then found_at path (Some (entry_at order bytes e.slot).name) None (overlap extents e) else []

-- what looks wrong in a code file that can be read: in its slots, and where entries overlap
unfoldable pub findings_of_entries : List ℕ → Option (List Record) → List Seen → Order
    → List ℕ → ℕ → List Stated
findings_of_entries path host list order bytes file =
    flat_map (findings_of_slot path host list order bytes file) slots
    ++ flat_map (overlap_finding path order bytes (map (extent_at order bytes) slots))
    (map (extent_at order bytes) slots)

-- the findings in a code file, of which the words are read in the host's order
unfoldable pub findings_of_code_file : List ℕ → Option (List Record) → List Seen → Order
    → List ℕ → ℕ → List Stated
findings_of_code_file path host list order bytes file = option_map_or
    (λ f. findings_of_entries path host list f.order f.file file)
    (result_ok (opened_beside order bytes)) []
