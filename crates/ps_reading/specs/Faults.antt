-- The faults of reading the files of a link, step by step: of each step the first fault in its own
-- order, and a later step is looked at only where no earlier one has a fault.
use Rattle.std.specs.Prelude.{ℕ, ◌==◌, ◌&&◌, not, if◌then◌else◌, List, length, Bool, false, Option, Some, None, Ok, Err, option_and_then, bytes_eq}
use Rattle.std.specs.List.{range_with_len, list_any, find, enumerate_from}
use Rattle.std.specs.Option.{option_map, option_map_or, option_or}
use Rattle.std.specs.Result.{result_err, result_ok}
use Rattle.ps_words.specs.FaultPlaces.{in_file, in_slot, in_record}
use Rattle.ps_words.specs.declared.order.Order.{Order}
use Rattle.ps_words.specs.declared.fault.Reason.{Reason}
use Rattle.ps_words.specs.declared.fault.Reason.TheVariants as reason
use Rattle.ps_words.specs.declared.fault.Fault.{Fault}
use Rattle.ps_codefile.specs.Dictionary.{slots, opened_alone, opened_beside, entry_at, role_of, code_of, information_of}
use Rattle.ps_codefile.specs.Procedures.{tables_fault}
use Rattle.ps_codefile.specs.declared.entry.Role.{Role}
use Rattle.ps_codefile.specs.declared.entry.Role.TheVariants.{Wanted}
use Rattle.ps_codefile.specs.declared.entry.Entry.{Entry}
use Rattle.ps_linkinfo.specs.Records.{reading}
use Rattle.ps_reading.specs.Searches.{first_of, fault_if}
use Rattle.ps_codefile.specs.Roles.{needs_linking, is_host, is_unit}
use Rattle.ps_reading.specs.Sources.{source_of, unit_source, file_at, is_named, chosen_library, library_file}
use Rattle.ps_reading.specs.Requests.{is_missing, missing_at, request_by_slot}
use Rattle.ps_reading.specs.declared.reading.request.Request.{Request}

-- 1. the host by itself: too short, of no byte order, or without any kind
abbrev pub host_fault : List ℕ → Option Fault
host_fault host = option_map (in_file 0) (result_err (opened_alone host))

-- 2. its slots: each by its kind, then a second host segment, then a second unit of a name
abbrev pub is_role : (Role → Bool) → Order → List ℕ → ℕ → Bool
is_role test order host slot = option_map_or test
    (result_ok (role_of (entry_at order host slot))) false

-- why a slot is refused: by its kind, as a second host segment, or as a second unit of its name
abbrev pub slot_reason : Order → List ℕ → ℕ → Option Reason
slot_reason order host slot =
    option_or (result_err (role_of (entry_at order host slot)))
    (option_or (fault_if (is_role is_host order host slot
    && list_any (is_role is_host order host) (range_with_len 0 slot)) reason.TwoHosts)
    (fault_if (is_role is_unit order host slot
    && list_any (λ s. is_role is_unit order host s
    && bytes_eq (entry_at order host s).name (entry_at order host slot).name)
    (range_with_len 0 slot)) reason.DoubledSegment))

-- the first fault of the host's slots
unfoldable pub slots_fault : Order → List ℕ → Option Fault
slots_fault order host = first_of (λ slot. option_map (in_slot 0 slot)
    (slot_reason order host slot)) slots

-- 3. a host segment
unfoldable pub no_host_fault : Order → List ℕ → Option Fault
no_host_fault order host = fault_if (not (list_any (is_role is_host order host) slots))
    (in_file 0 reason.NoHost)

-- 4. the libraries, each by itself
abbrev pub library_reason : Order → List ℕ → Option Reason
library_reason order lib = result_err (opened_beside order lib)

-- the fault of a library as a whole, by its number
abbrev pub library_fault : Order → ℕ × List ℕ → Option Fault
library_fault order lib = option_map (in_file lib.0) (library_reason order lib.1)

-- the first fault of the libraries
unfoldable pub libraries_fault : Order → List (List ℕ) → Option Fault
libraries_fault order libs = first_of (library_fault order) (enumerate_from 1 libs)

-- 5. the source of each slot: for a wanted unit the library that has it, then the code, then for a
--    linked segment its tables and its records
abbrev pub entries_reason : Order → List ℕ → List ℕ → Option Reason
entries_reason order name lib =
    if list_any (λ i. is_named order name lib i
    && list_any (is_named order name lib) (range_with_len 0 i)) slots
    then Some reason.DoubledUnit
    else option_and_then (λ i. let kind = (entry_at order lib i).kind in
    fault_if (not (kind == 3)) (reason.NotAUnit kind)) (find (is_named order name lib) slots)

-- the first fault of the chosen library's entries of a name, where there is such a library
abbrev pub entry_fault : Order → List ℕ → List (List ℕ) → ℕ → Option Fault
entry_fault order name libs slot = option_and_then
    (λ lib. option_map (in_slot (library_file lib.0) slot) (entries_reason order name lib.1))
    (chosen_library order name libs)

-- the fault of link information, with the index of the record that cannot be read
abbrev pub information_fault : Order → List ℕ → Entry → ℕ → ℕ → Option Fault
information_fault order file e k slot = let read = reading order (information_of file e) in
    option_map (in_record k slot (length read.0)) read.1

-- the first fault of the entry that a slot's code is from: of the code, then of a linked one's
-- tables and records
abbrev pub code_fault : Order → List ℕ → List (List ℕ) → ℕ → Role → ℕ × ℕ
    → Option Fault
code_fault order host libs slot role at =
    let file = file_at host libs at.0 in
    let e = entry_at order file at.1 in
    elim (code_of file e) [
      | Err why ↦ Some (in_slot at.0 slot why)
      | Ok code ↦ if needs_linking role
          then option_or (option_map (in_slot at.0 slot) (tables_fault order code (is_host role)))
          (information_fault order file e at.0 slot) else None
    ]

-- the first fault of a request: no library has its name; the entries of the library that has it;
-- then the code, its tables and its records
abbrev pub request_fault : Order → List ℕ → List (List ℕ) → Request → Option Fault
request_fault order host libs r =
    if is_missing order libs r.name then Some (missing_at r.slot r.requester)
    else option_or (entry_fault order r.name libs r.slot)
    (option_and_then (code_fault order host libs r.slot Wanted) (unit_source order r.name libs))

-- the first fault of a slot of the host of this role: of its request, where it wants a unit, or of
-- its code, tables and records
abbrev pub role_fault : Order → List ℕ → List (List ℕ) → ℕ → Role → Option Fault
role_fault order host libs slot Wanted =
    request_fault order host libs (request_by_slot order host slot)
role_fault order host libs slot role = option_and_then (code_fault order host libs slot role)
    (source_of order host libs slot role)

-- the first fault of the source of a slot of the host, by the slot's own role
abbrev pub source_fault : Order → List ℕ → List (List ℕ) → ℕ → Option Fault
source_fault order host libs slot = option_and_then (role_fault order host libs slot)
    (result_ok (role_of (entry_at order host slot)))

-- the first fault of the sources of all slots, by slot
unfoldable pub sources_fault : Order → List ℕ → List (List ℕ) → Option Fault
sources_fault order host libs = first_of (source_fault order host libs) slots
