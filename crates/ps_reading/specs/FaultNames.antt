-- The name of what a fault is about: that of the record that is at fault, or that of the slot.
use Rattle.std.specs.Prelude.{ℕ, if◌then◌else◌, List, Option, Some, None, Result, Ok, Err, nat_le, option_and_then, slice_get, unwrap_or}
use Rattle.std.specs.List.{find}
use Rattle.std.specs.Option.{option_map, option_map_or}
use Rattle.ps_words.specs.FaultPlaces.{read_record}
use Rattle.ps_words.specs.declared.fault.Fault.{Fault}
use Rattle.ps_words.specs.declared.fault.Reason.{Reason}
use Rattle.ps_codefile.specs.Dictionary.{OpenedFile, entry_at, role_of}
use Rattle.ps_codefile.specs.declared.entry.Role.{Role}
use Rattle.ps_codefile.specs.declared.entry.Role.TheVariants as role
use Rattle.ps_reading.specs.KnownSegments.{is_in_slot}
use Rattle.ps_reading.specs.Readings.{HostFiles, all_read, opened_host, slot_request}
use Rattle.ps_reading.specs.Sources.{Segment, opened_files}
use Rattle.ps_codefile.specs.declared.dictionary_layout.TheConstants.{SLOTS}

-- the name in the record of this index of a segment, where it has so many
abbrev pub name_of_record : ℕ → Segment → Option (List ℕ)
name_of_record rec s = option_map (λ r. r.name) (slice_get s.records rec)

-- the name in the record of this index of the segment that is in a slot of a link
abbrev pub name_in_record : HostFiles → ℕ → ℕ → Option (List ℕ)
name_in_record h slot rec = option_and_then (name_of_record rec)
    (find (is_in_slot slot) (all_read h.order h.file (opened_files h.order h.libs)))

-- the name of the unit that is requested in an empty slot, or that of the slot's entry
abbrev pub name_in_slot : HostFiles → ℕ → List ℕ
name_in_slot h slot = option_map_or (λ r. r.name)
    (slot_request h.order h.file (opened_files h.order h.libs) slot)
    (entry_at h.order h.file slot).name

-- the name that a slot of this role has by its own entry: of one that is not empty
abbrev pub name_by_role : List ℕ → Result Role Reason → Option (List ℕ)
name_by_role name (Ok role.Empty) = None
name_by_role name (Ok role.Wanted) = Some name
name_by_role name (Ok role.Plain) = Some name
name_by_role name (Ok role.Host) = Some name
name_by_role name (Ok role.Unit) = Some name
name_by_role name (Err why) = Some name

-- the name of an entry of a file that was opened, or was not
abbrev pub entry_name : Result OpenedFile Reason → ℕ → Option (List ℕ)
entry_name (Err why) slot = None
entry_name (Ok f) slot = let e = entry_at f.order f.file slot in name_by_role e.name (role_of e)

-- the name of a slot: by the entry, or else of the unit that is requested
abbrev pub slot_name : HostFiles → ℕ → List ℕ
slot_name h slot = let e = entry_at h.order h.file slot in
    unwrap_or (name_by_role e.name (role_of e)) (name_in_slot h slot)

-- the name of a slot of the host or, where the index of a record is given, that in the record of
-- its segment
abbrev pub name_at : HostFiles → ℕ → Option ℕ → Option (List ℕ)
name_at h slot None = Some (slot_name h slot)
name_at h slot (Some rec) = name_in_record h slot rec

-- the name of a slot, or of its segment's record, of a host that was opened, or was not
abbrev pub name_as : Result HostFiles Reason → ℕ → Option ℕ → Option (List ℕ)
name_as (Err why) slot rec = None
name_as (Ok h) slot rec = name_at h slot rec

abbrev pub read_name : List ℕ → List (List ℕ) → ℕ → Option ℕ → Option (List ℕ)
read_name host libs slot rec = name_as (opened_host host libs) slot rec

-- the slot of a fault, where a host has it
abbrev pub host_slot : Fault → Option ℕ
host_slot f = option_and_then (λ slot. if nat_le SLOTS slot then None else Some slot) f.slot

-- The name of what a fault of these files is about, eight bytes. Of a fault with a record that
-- could be read, the name in that record of the segment in its slot: of the unit that is requested,
-- or of the symbol. Of any other with a slot, the name of that slot in the host's dictionary or,
-- where it is empty, of the unit that is requested there. None of a fault of a file as a whole.
unfoldable pub fault_name : List ℕ → List (List ℕ) → Fault → Option (List ℕ)
fault_name host libs f =
    option_and_then (λ slot. read_name host libs slot (read_record f)) (host_slot f)
