-- What is read of each slot of a host, also after the first fault, and the names that are
-- requested.
use Rattle.std.specs.Prelude.{◌≡◌, ◌≤◌, ℕ, ◌==◌, ◌++◌, if◌then◌else◌, List, [], length, map, take, slice_get, All, false, Option, Some, None, Result, Ok, Err, is_none, option_and_then}
use Rattle.std.specs.List.{enumerate_from, filter_map, find}
use Rattle.std.specs.Option.{option_map, option_map_or, option_or}
use Rattle.std.specs.Result.{result_ok}
use Rattle.ps_words.specs.declared.order.Order.{Order}
use Rattle.ps_words.specs.declared.fault.Fault.{Fault}
use Rattle.ps_words.specs.declared.fault.Reason.{Reason}
use Rattle.ps_codefile.specs.Dictionary.{OpenedFile, slots, entry_at, opened_alone, role_of}
use Rattle.ps_codefile.specs.declared.entry.Role.{Role}
use Rattle.ps_codefile.specs.declared.entry.Role.TheVariants.{Empty, Wanted, Plain, Host, Unit}
use Rattle.ps_reading.specs.Requests.{is_missing, request_by_slot}
use Rattle.ps_reading.specs.Sources.{Segment, own_segment, opened_files, unit_source, units_of, order_of}
use Rattle.ps_reading.specs.Faults.{slots_fault, no_host_fault, libraries_fault, source_fault, sources_fault, host_fault}
use Rattle.ps_reading.specs.Added.{RoundsOutcome, all_unit_references, empty_slots, requested_from, request_of, rounds_of, added_fault}
use Rattle.ps_reading.specs.KnownSegments.{IsRead, segments_in_slots}
use Rattle.ps_reading.specs.declared.reading.added.AddedUnits.{AddedUnits}
use Rattle.ps_reading.specs.declared.reading.added.UnitReference.{UnitReference}
use Rattle.ps_reading.specs.declared.reading.request.Request.{Request}
use Rattle.ps_reading.specs.declared.reading.added.TheConstants.{MAX_REQUESTED}

-- the own segment of a slot, where its source has no fault
abbrev pub read_segment : Order → List ℕ → List (List ℕ) → ℕ → Option Segment
read_segment order host libs slot = if is_none (source_fault order host libs slot)
    then own_segment order host libs slot else None

-- the own segments of all slots whose source has no fault, by slot
unfoldable pub read_segments : Order → List ℕ → List (List ℕ) → List Segment
read_segments order host libs = filter_map (read_segment order host libs) slots

-- the fault of the source of each slot, where it has one
unfoldable pub own_faults : Order → List ℕ → List (List ℕ) → List (Option Fault)
own_faults order host libs = map (source_fault order host libs) slots

-- the rounds that add units to them
unfoldable pub read_rounds : Order → List ℕ → List (List ℕ) → RoundsOutcome
read_rounds order host libs = rounds_of order host libs (read_segments order host libs)

-- the own segments and the added ones, by slot
unfoldable pub all_read : Order → List ℕ → List (List ℕ) → List Segment
all_read order host libs = segments_in_slots order host (read_segments order host libs)
    (read_rounds order host libs).added

-- the names that they request, each with the record that first gave it, of which
-- MAX_REQUESTED are kept
unfoldable pub read_requests : Order → List ℕ → List (List ℕ) → List UnitReference
read_requests order host libs =
    let own = read_segments order host libs in
    take MAX_REQUESTED (requested_from (units_of own) []
    (all_unit_references (own ++ (read_rounds order host libs).added)))

-- the empty slot that is next after those that rounds have given
abbrev pub slot_after : RoundsOutcome → List ℕ → Option ℕ
slot_after rounds empty = slice_get empty (length rounds.added)

-- the fault with which the rounds end, if it is that of the unit that takes this slot
abbrev pub fault_of_added : RoundsOutcome → List ℕ → ℕ → Option Fault
fault_of_added rounds empty slot = if option_map_or (λ next. next == slot)
    (slot_after rounds empty) false then rounds.fault else None

-- why a slot has no segment: the fault of its source, or of the unit that would be added there
abbrev pub slot_fault : Order → List ℕ → List (List ℕ) → ℕ → Option Fault
slot_fault order host libs slot = option_or (source_fault order host libs slot)
    (fault_of_added (read_rounds order host libs) (empty_slots order host) slot)

-- what is read of a slot: its fault, or its segment, if it has one
abbrev pub slot_reading : Order → List ℕ → List (List ℕ) → ℕ
    → Option (Result Segment Fault)
slot_reading order host libs slot =
    elim (slot_fault order host libs slot) [
      | Some fault ↦ Some (Err fault)
      | None ↦ option_map Ok (find (λ s. s.slot == slot) (all_read order host libs))
    ]

-- the request of a slot that wants a unit
abbrev pub wanted_request : Order → List ℕ → ℕ → Role → Option Request
wanted_request order host slot Wanted = Some (request_by_slot order host slot)
wanted_request order host slot Empty = None
wanted_request order host slot Plain = None
wanted_request order host slot Host = None
wanted_request order host slot Unit = None

-- the request of a name of the queue that takes an empty slot: the k-th name takes the k-th slot
abbrev pub queued_request : List UnitReference → List ℕ → ℕ → Option Request
queued_request queue empty slot =
    option_and_then (λ k. option_map (λ g. request_of g slot) (slice_get queue k.0))
    (find (λ k. k.1 == slot) (enumerate_from 0 empty))

-- the request that a slot has, if it has one
abbrev pub slot_request : Order → List ℕ → List (List ℕ) → ℕ → Option Request
slot_request order host libs slot =
    option_or (option_and_then (wanted_request order host slot)
    (result_ok (role_of (entry_at order host slot))))
    (queued_request (read_requests order host libs) (empty_slots order host) slot)

-- the entry of the host that has the segment of a slot of this role
abbrev pub own_entry : ℕ → Role → Option (ℕ × ℕ)
own_entry slot Empty = None
own_entry slot Wanted = None
own_entry slot Plain = Some (0, slot)
own_entry slot Host = Some (0, slot)
own_entry slot Unit = Some (0, slot)

-- the file and the entry that have the unit of a name, where it is not missing
abbrev pub named_entry : Order → List (List ℕ) → List ℕ → Option (ℕ × ℕ)
named_entry order libs name = if is_missing order libs name then None
    else unit_source order name libs

-- the file, 0 for the host and k for the k-th library, and the entry there that the segment of a
-- slot comes from, also where it is refused
abbrev pub slot_entry : Order → List ℕ → List (List ℕ) → ℕ → Option (ℕ × ℕ)
slot_entry order host libs slot =
    elim (slot_request order host libs slot) [
      | Some request ↦ named_entry order libs request.name
      | None ↦ option_and_then (own_entry slot) (result_ok (role_of (entry_at order host slot)))
    ]

-- The first fault of a host that is read in its own order, with these libraries.
unfoldable pub host_reading_fault : Order → List ℕ → List (List ℕ) → Option Fault
host_reading_fault order host libs =
    option_or (slots_fault order host) (option_or (no_host_fault order host)
    (option_or (libraries_fault order libs)
    (option_or (sources_fault order host (opened_files order libs))
    (read_rounds order host (opened_files order libs)).fault)))

-- The first fault of its own slots and of the libraries, before units are added.
unfoldable pub own_reading_fault : Order → List ℕ → List (List ℕ) → Option Fault
own_reading_fault order host libs =
    option_or (option_or (slots_fault order host)
    (option_or (no_host_fault order host) (libraries_fault order libs)))
    (sources_fault order host (opened_files order libs))

-- the sources of the slots, and the units that are added
abbrev pub reading_rest : Order → List ℕ → List (List ℕ) → Option Fault
reading_rest order host libs = option_or (sources_fault order host libs)
    (added_fault order host libs)

-- the host, its slots, the want of a host segment, the libraries, the sources of the slots, and the
-- units that are added
unfoldable pub reading_fault : List ℕ → List (List ℕ) → Option Fault
reading_fault host libs =
    let order = order_of host in
    option_or (host_fault host) (option_or (slots_fault order host)
    (option_or (no_host_fault order host)
    (option_or (libraries_fault order libs) (reading_rest order host libs))))

-- A host file that was opened, with its libraries.
pub record HostFiles : Type 0 where
  pub order : Order
  pub file : List ℕ
  pub libs : List (List ℕ)

-- a host that was opened, with its libraries
abbrev pub with_libraries : OpenedFile → List (List ℕ) → HostFiles
with_libraries host libs = record { order = host.order; file = host.file; libs = libs }

-- the segments that were read of such files without a fault, and what is requested there
pub record AreReadNames (host : OpenedFile) (libs : List (List ℕ)) (segments : List Segment)
    (added : AddedUnits) : Type 0 where
  pub all : segments ≡ all_read host.order host.file (opened_files host.order libs)
  pub requested : added.queue.items
      ≡ read_requests host.order host.file (opened_files host.order libs)
  pub slots_left : added.empty.items ≡ empty_slots host.order host.file

-- what was read of such files
pub record IsReading (host : OpenedFile) (libs : List (List ℕ)) (segments : List Segment)
    (refused : List (Option Fault)) (added : AddedUnits) (fault : Option Fault) : Type 0 where
  pub whole : 512 ≤ length host.file
  pub slots_left : added.empty.items ≡ empty_slots host.order host.file
  pub all : segments ≡ all_read host.order host.file (opened_files host.order libs)
  pub read : All (IsRead host.order host.file (opened_files host.order libs)) segments
  pub faults : refused ≡ own_faults host.order host.file (opened_files host.order libs)
  pub requested : added.queue.items
      ≡ read_requests host.order host.file (opened_files host.order libs)
  pub following : added.next
      ≡ slot_after (read_rounds host.order host.file (opened_files host.order libs))
      (empty_slots host.order host.file)
  pub ends : added.fault
      ≡ (read_rounds host.order host.file (opened_files host.order libs)).fault
  pub first : fault ≡ host_reading_fault host.order host.file libs

-- the files of a reading
pub record ReadFiles : Type 0 where
  pub host : List ℕ
  pub libs : List (List ℕ)

-- a host as it is opened, with its libraries, or why it cannot be opened
abbrev pub opened_host : List ℕ → List (List ℕ) → Result HostFiles Reason
opened_host host libs =
    elim (opened_alone host) [
      | Err why ↦ Err why
      | Ok opened ↦ Ok (with_libraries opened libs)
    ]

-- the segments that were read of it without a fault, by slot; none where it cannot be opened
abbrev pub segments_in : Result HostFiles Reason → List Segment
segments_in (Err why) = []
segments_in (Ok host) = all_read host.order host.file (opened_files host.order host.libs)

-- the segments that were read of a host file and its libraries without a fault, by slot
abbrev pub segments_read : List ℕ → List (List ℕ) → List Segment
segments_read host libs = segments_in (opened_host host libs)
