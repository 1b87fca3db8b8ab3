-- The units of a file by themselves: a line of each, made for grep, and an item of a JSON document.
use Rattle.std.specs.Prelude.{ℕ, ◌||◌, if◌then◌else◌, List, [], ◌∷◌, ◌++◌, codes, Bool, Option, Some, None, Result, Ok, Err, is_some, length, ◌==◌}
use Rattle.std.specs.List.{enumerate_from, filter_map, flat_map, list_any}
use Rattle.ps_words.specs.FaultText.{part_text}
use Rattle.ps_words.specs.declared.fault.Reason.{Reason}
use Rattle.ps_words.specs.declared.fault.Fault.{Fault}
use Rattle.ps_codefile.specs.Dictionary.{entry_at, role_of, slots}
use Rattle.ps_codefile.specs.declared.entry.Role.{Role}
use Rattle.ps_codefile.specs.declared.entry.Role.TheVariants as role
use Rattle.ps_resolve.specs.LoneUnits.{lone_fault}
use Rattle.ps_resolve.specs.Readings.{HostFiles, opened_host}
use Rattle.ps_resolve.specs.Sources.{opened_files}
use Rattle.ps_codefile.specs.Opened.{opened}
use Rattle.ps_filetype.specs.CodeTypes.{is_code_type}
use Rattle.ps_writing.specs.JsonText.{line_end}
use Rattle.ps_writing.specs.Rows.{InSlot, value_in}
use Rattle.ps_writing.specs.declared.rows.Form.TheVariants.{Json}
use Rattle.ps_writing.specs.Lines.{line, shown_name, two_digits}
use Rattle.ps_listing.specs.Listed.{segments_found, values_of}
use Rattle.ps_listing.specs.ListText.{file_in, no_fault_in, question_marked_path, refused_in, refused_words, segments_in}
use Rattle.ps_listing.specs.declared.lone.LoneUnit.{LoneUnit}

-- the unit in a slot of this role, where the file has its code
abbrev pub unit_of_role : HostFiles → ℕ → Result Role Reason → Option LoneUnit
unit_of_role h slot (Ok role.Empty) = None
unit_of_role h slot (Ok role.Wanted) = None
unit_of_role h slot (Ok role.Plain) = None
unit_of_role h slot (Ok role.Host) = None
unit_of_role h slot (Ok role.Unit) =
    Some (record {
      slot = slot;
      name = (entry_at h.order h.file slot).name;
      fault = lone_fault h.order h.file (opened_files h.order h.libs) slot;
    })
unit_of_role h slot (Err why) = None

-- the unit in a slot
abbrev pub lone_unit : HostFiles → ℕ → Option LoneUnit
lone_unit h slot = unit_of_role h slot (role_of (entry_at h.order h.file slot))

-- the units of a file that was opened, by slot
abbrev pub units_of : HostFiles → List LoneUnit
units_of h = filter_map (lone_unit h) slots

-- the units of a file that was opened, or was not
abbrev pub units_as : Result HostFiles Reason → List LoneUnit
units_as (Ok h) = units_of h
units_as (Err why) = []

-- the units of which the entries of a file have the code
abbrev pub units_in_entries : List ℕ → List LoneUnit
units_in_entries file = units_as (opened_host file [])

-- the units of a file: one of which its list says that it is something else has none
abbrev pub lone_units : List ℕ → List LoneUnit
lone_units file = if is_code_type file then units_in_entries file else []

-- a unit has a fault
abbrev pub is_refused_unit : LoneUnit → Bool
is_refused_unit u = is_some u.fault

-- there is no unit, or one that has a fault
abbrev pub has_no_sound : List LoneUnit → Bool
has_no_sound units = length units == 0 || list_any is_refused_unit units

-- what is wrong with a unit
abbrev pub lone_words : Option Fault → List ℕ
lone_words None = codes ", no fault"
lone_words (Some f) = refused_words f ++ part_text (codes "reference") f.reference

-- the line of a unit, as `PATH: slot 02 UTIL     by itself, no fault`
abbrev pub lone_line : List ℕ → LoneUnit → List ℕ
lone_line path u = line (question_marked_path path
    ++ (codes ": slot " ++ two_digits u.slot ++ (32 ∷ []) ++ shown_name u.name)
    ++ codes " by itself" ++ lone_words u.fault)

-- the lines of units
abbrev pub lone_text : List ℕ → List LoneUnit → List ℕ
lone_text path units = flat_map (lone_line path) units

-- the item of a unit, the first of its list or not, as
-- `{"slot":2,"name":"UTIL    ","name_hex":"5554494C20202020","fault":null}`
abbrev pub lone_fault_member : List ℕ → Option Fault → List ℕ
lone_fault_member name None = no_fault_in Json
lone_fault_member name (Some f) = refused_in Json (Some name) f

abbrev pub lone_item : Bool → LoneUnit → List ℕ
lone_item first u = line_end first ++ value_in Json (InSlot (codes ": slot ") u.slot u.name)
    ++ lone_fault_member u.name u.fault ++ codes "}"

-- the items of units
abbrev pub lone_items : List LoneUnit → List ℕ
lone_items us = flat_map (λ p. lone_item (p.0 == 0) p.1) (enumerate_from 0 us)

-- the item of a file, which has its units too
unfoldable pub listed_with_units : List ℕ → List ℕ → List ℕ → List LoneUnit → List ℕ
listed_with_units path phrase file units =
    file_in Json path phrase (values_of (length file) (opened file))
    ++ segments_in Json path (segments_found phrase (opened file))
    ++ codes "\n],\"units\":[" ++ lone_items units ++ codes "\n]}"
