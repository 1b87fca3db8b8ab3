-- The names of units that a link takes from libraries, and of those whose code a file has.
use Rattle.std.specs.Prelude.{◌≡◌, ◌⊎◌, ℕ, ◌<◌, ◌&&◌, if◌then◌else◌, List, [], ◌∷◌, ◌++◌, length, slice_get, Bool, true, Option, Some, None, Result, Ok, Err, bytes_eq}
use Rattle.std.specs.List.{filter_map, flat_map, list_any}
use Rattle.ps_words.specs.declared.order.Order.{Order}
use Rattle.ps_words.specs.declared.fault.Reason.{Reason}
use Rattle.ps_words.specs.declared.fault.Reason.TheVariants as reason
use Rattle.ps_codefile.specs.Dictionary.{OpenedFile, entry_at, role_of, slots}
use Rattle.ps_codefile.specs.Opened.{opened}
use Rattle.ps_codefile.specs.Roles.{is_unit}
use Rattle.ps_codefile.specs.declared.dictionary_layout.TheConstants.{SLOTS}
use Rattle.ps_codefile.specs.declared.entry.Role.{Role}
use Rattle.ps_codefile.specs.declared.entry.Role.TheVariants.{Empty, Wanted, Plain, Host, Unit}
use Rattle.ps_filetype.specs.CodeTypes.{is_code_type}
use Rattle.ps_resolve.specs.Faults.{is_role}
use Rattle.ps_resolve.specs.Readings.{HostFiles, opened_host, read_requests}
use Rattle.ps_resolve.specs.Sources.{opened_files}
use Rattle.ps_resolve.specs.Standing.Phrases.{SomeBelow, SomeItem}

-- the name of a slot of this role that wants a unit
abbrev pub wanted_as : List ℕ → Result Role Reason → Option (List ℕ)
wanted_as name (Ok Empty) = None
wanted_as name (Ok Wanted) = Some name
wanted_as name (Ok Plain) = None
wanted_as name (Ok Host) = None
wanted_as name (Ok Unit) = None
wanted_as name (Err why) = None

-- the name of a slot of this role whose unit the file has
abbrev pub had_as : List ℕ → Result Role Reason → Option (List ℕ)
had_as name (Ok Empty) = None
had_as name (Ok Wanted) = None
had_as name (Ok Plain) = None
had_as name (Ok Host) = None
had_as name (Ok Unit) = Some name
had_as name (Err why) = None

-- the name of a slot, where it wants a unit
abbrev pub wanted_name : Order → List ℕ → ℕ → Option (List ℕ)
wanted_name order file slot = let e = entry_at order file slot in wanted_as e.name (role_of e)

-- the name of a slot, where the file has its unit
abbrev pub had_name : Order → List ℕ → ℕ → Option (List ℕ)
had_name order file slot = let e = entry_at order file slot in had_as e.name (role_of e)

-- the list has the name
abbrev pub has_name : List (List ℕ) → List ℕ → Bool
has_name names name = list_any (λ other. bytes_eq other name) names

-- the list with the name, which comes last where it is new
abbrev pub with_name : List (List ℕ) → List ℕ → List (List ℕ)
with_name names name = if has_name names name then names else names ++ name ∷ []

-- the list with each of these names
abbrev pub with_each : List (List ℕ) → List (List ℕ) → List (List ℕ)
with_each names [] = names
with_each names (n ∷ more) = with_each (with_name names n) more

-- the units that the slots of a host want, by slot, each once
unfoldable pub slots_wanted : Order → List ℕ → List (List ℕ)
slots_wanted order file = with_each [] (filter_map (wanted_name order file) slots)

-- the slot is that of a unit of this name, which is in place in the host or is wanted
abbrev pub is_slot_of : Order → List ℕ → List ℕ → ℕ → Bool
is_slot_of order file name slot =
    is_role is_unit order file slot && bytes_eq (entry_at order file slot).name name

-- some slot of the host is
unfoldable pub has_slot_of : Order → List ℕ → List ℕ → Bool
has_slot_of order file name = list_any (is_slot_of order file name) slots

-- the name that a record requests, where no slot of the host has it
abbrev pub sought_name : Order → List ℕ → List ℕ → Option (List ℕ)
sought_name order file name = if has_slot_of order file name then None else Some name

-- The units that a link takes from libraries, or would take if they had them: those that the slots
-- of the host want, and then those that a record requests, of the host or of a unit that was found,
-- and no slot of the host has. None is there twice.
unfoldable pub units_wanted : HostFiles → List (List ℕ)
units_wanted h = with_each (slots_wanted h.order h.file)
    (filter_map (λ g. sought_name h.order h.file g.name)
    (read_requests h.order h.file (opened_files h.order h.libs)))

-- the units of which the entries of a file have the code, by slot
unfoldable pub units_had : Order → List ℕ → List (List ℕ)
units_had order file = filter_map (had_name order file) slots

-- those of a host that was opened, or was not: one with no kind but 0 has nothing to link, and one of
-- which its list says that it is something else wants none
abbrev pub wanted_in : Bool → Result HostFiles Reason → Result (List (List ℕ)) Reason
wanted_in is_code (Ok h) = Ok (if is_code then units_wanted h else [])
wanted_in is_code (Err reason.NoHost) = Ok []
wanted_in is_code (Err why) = Err why

-- the names of the units that a link of these files takes, or why the host cannot be opened
abbrev pub names_wanted : List ℕ → List (List ℕ) → Result (List (List ℕ)) Reason
names_wanted host libs = wanted_in (is_code_type host) (opened_host host libs)

-- those of a file that was opened, or was not: one of which its list says that it is something else
-- has none
abbrev pub had_in : Bool → Result OpenedFile Reason → Result (List (List ℕ)) Reason
had_in is_code (Ok f) = Ok (if is_code then units_had f.order f.file else [])
had_in is_code (Err why) = Err why

-- the names of the units whose code a file has, or why it cannot be opened
abbrev pub names_had : List ℕ → Result (List (List ℕ)) Reason
names_had file = had_in (is_code_type file) (opened file)

-- there is a name
abbrev pub HasNames : Result (List (List ℕ)) Reason → Type 0
HasNames (Ok names) = 0 < length names
HasNames (Err why) = ⊥

-- names, eight bytes each, one after another
abbrev pub bytes_of : List (List ℕ) → List ℕ
bytes_of names = flat_map (λ name. name) names

-- some slot wants a unit of this name
abbrev pub IsWanted : HostFiles → List ℕ → Type 0
IsWanted h name = SomeBelow SLOTS (λ slot. (role_of (entry_at h.order h.file slot) ≡ Ok Wanted)
    × ((entry_at h.order h.file slot).name ≡ name))

-- some slot of the host has it, which is that of a unit, in place or wanted
abbrev pub IsOfHost : HostFiles → List ℕ → Type 0
IsOfHost h name = SomeBelow SLOTS (λ slot. (is_role is_unit h.order h.file slot ≡ true)
    × ((entry_at h.order h.file slot).name ≡ name))

-- a record requests it, of the host or of a unit that was found
abbrev pub IsRequested : HostFiles → List ℕ → Type 0
IsRequested h name = SomeItem (read_requests h.order h.file (opened_files h.order h.libs))
    (λ k g. g.name ≡ name)

-- the name is in the list
abbrev pub IsNamed : List (List ℕ) → List ℕ → Type 0
IsNamed names name = (k : ℕ) × (slice_get names k ≡ Some name)

-- a link takes the unit of this name from a library, or would take it if one had it
abbrev pub IsTaken : HostFiles → List ℕ → Type 0
IsTaken h name = IsWanted h name ⊎ (IsRequested h name × (IsOfHost h name → ⊥))

-- these are the names of the units that a link takes, none of them twice
pub record AreTaken (h : HostFiles) (names : List (List ℕ)) : Type 0 where
  pub once : (j k : ℕ) (name : List ℕ) → slice_get names j ≡ Some name
      → slice_get names k ≡ Some name → j ≡ k
  pub taken : (name : List ℕ) → IsNamed names name → IsTaken h name
  pub all : (name : List ℕ) → IsTaken h name → IsNamed names name
