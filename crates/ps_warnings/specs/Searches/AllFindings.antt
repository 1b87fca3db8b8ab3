-- How a check searches a host and its libraries, by the segments of the link as they were read; no
-- contract of another crate cites it. It looks at each file that is a code file, in the order of the
-- files, and then at the whole link.
use Rattle.std.specs.Prelude.{ℕ, if◌then◌else◌, List, [], ◌∷◌, ◌++◌, take, Option, Some, None, unwrap_or}
use Rattle.std.specs.List.{enumerate_from, flat_map}
use Rattle.std.specs.Option.{option_map_or}
use Rattle.std.specs.Result.{result_ok}
use Rattle.ps_words.specs.declared.order.Order.{Order}
use Rattle.ps_codefile.specs.Dictionary.{opened_alone}
use Rattle.ps_filetype.specs.CodeTypes.{is_code_type}
use Rattle.ps_linkinfo.specs.declared.record.LinkRecord.{LinkRecord as Record}
use Rattle.ps_warnings.specs.Searches.FileFindings.{findings_of_code_file}
use Rattle.ps_warnings.specs.Found.{Stated, found_at}
use Rattle.ps_warnings.specs.Searches.LinkFindings.{other_spelling, taken_by}
use Rattle.ps_check_segments.specs.Paths.{host_order, path_of}
use Rattle.ps_check_segments.specs.Seen.{Seen, host_records}

-- what looks wrong in a file of this number, if it is a code file
unfoldable pub findings_of_file : List (List ℕ) → Option (List Record) → List Seen → Order
    → ℕ × List ℕ → List Stated
findings_of_file paths host list order file = if is_code_type file.1
    then findings_of_code_file (path_of paths file.0) host list order file.1 file.0 else []

-- the findings in each of these files, the first of which is the host
unfoldable pub findings_of_files : List (List ℕ) → Option (List Record) → List Seen → Order
    → List (List ℕ) → List Stated
findings_of_files paths host list order files =
    flat_map (findings_of_file paths host list order) (enumerate_from 0 files)

-- what looks wrong in a segment of the link by the others: it takes a slot that the host has for
-- another one, or an earlier unit has nearly its name
unfoldable pub findings_of_unit : List (List ℕ) → Order → List ℕ → List Seen → ℕ × Seen
    → List Stated
findings_of_unit paths order host list s =
    let path = path_of paths (unwrap_or s.1.file 0) in
    found_at path (Some s.1.name) None (taken_by order host s.1.slot s.1.part)
    ++ found_at path (Some s.1.name) None (other_spelling (take s.0 list) s.1)

-- what looks wrong with the units of a link, in each segment, in their order
unfoldable pub findings_of_units : List (List ℕ) → Order → List ℕ → List Seen → List Stated
findings_of_units paths order host list =
    flat_map (findings_of_unit paths order host list) (enumerate_from 0 list)

-- what looks wrong with the units of a link, where the host can be read
unfoldable pub findings_of_link : List (List ℕ) → List ℕ → List Seen → List Stated
findings_of_link paths host list = option_map_or (λ h. findings_of_units paths h.order h.file list)
    (result_ok (opened_alone host)) []

-- all findings about the link, with the records of the host program
unfoldable pub all_findings : List (List ℕ) → Option (List Record) → List ℕ → List (List ℕ)
    → List Seen → List Stated
all_findings paths program host libs list =
    findings_of_files paths program list (host_order host) (host ∷ libs)
    ++ findings_of_link paths host list

-- all findings of files whose link has these segments
abbrev pub link_findings_of : List (List ℕ) → List ℕ → List (List ℕ) → List Seen
    → List Stated
link_findings_of paths host libs list = all_findings paths (host_records list) host libs list
