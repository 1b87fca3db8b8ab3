-- A unit by itself: the first fault that it has in a link with a host that would define each name
-- that it requests, each as a public with the base offset 1.
use Rattle.std.specs.Prelude.{◌≡◌, ℕ, if◌then◌else◌, true, List, Option, Some, None, Result, Ok, Err, IsErr}
use Rattle.std.specs.Option.{option_and_then, option_or}
use Rattle.ps_words.specs.declared.order.Order.{Order}
use Rattle.ps_words.specs.declared.fault.Fault.{Fault}
use Rattle.ps_codefile.specs.Roles.{is_unit}
use Rattle.ps_resolve.specs.declared.linkage.Stop.{Stop}
use Rattle.ps_resolve.specs.declared.linkage.Stop.TheVariants.{Refused, Memory}
use Rattle.ps_reading.specs.Sources.{Segment}
use Rattle.ps_resolve.specs.Privates.{unallotted_fault}
use Rattle.ps_resolve.specs.References.{each_name, lone_base}
use Rattle.ps_resolve.specs.Faults.{segment_fault}
use Rattle.ps_reading.specs.Readings.{slot_reading}

-- the first fault of a unit's privates and references in a link with such a host, whose own
-- variables take no room
abbrev pub placing_fault : Order → Segment → Option Fault
placing_fault order s =
    if is_unit s.role then option_or (unallotted_fault s.file s.slot lone_base s.records)
    (segment_fault order each_name lone_base s) else None

-- the first fault of the segment in a slot by itself: of its code, tables and records, and then of
-- its privates and references
abbrev pub lone_fault : Order → List ℕ → List (List ℕ) → ℕ → Option Fault
lone_fault order host files slot =
    option_and_then (λ read. elim read [
      | Err fault ↦ Some fault
      | Ok s ↦ placing_fault order s
    ]) (slot_reading order host files slot)

-- a slot has a unit whose code, tables and records have no fault
abbrev pub IsSoundUnit : Order → List ℕ → List (List ℕ) → ℕ → Type 0
IsSoundUnit order host files slot = (s : Segment)
    × (slot_reading order host files slot ≡ Some (Ok s)) × (is_unit s.role ≡ true)

-- what was found by placing a unit: no fault, its fault, or that memory ran out
abbrev pub Finds : {X E : Type 0} → Result X Stop → Result (Option Fault) E → Type 0
Finds (Ok _) found = found ≡ Ok None
Finds (Err (Refused fault)) found = found ≡ Ok (Some fault)
Finds (Err Memory) found = IsErr found
