-- Edits of a segment: why they are not found, and which edit may be beside those of the references.
use Rattle.std.specs.Prelude.{◌≡◌, ℕ, ◌+◌, ◌-◌, ◌≤◌, List, length, Bool, true, false, Option, Some, None, ⊤, option_map}
use Rattle.ps_words.specs.Edits.{IsStorable, covers, place_of, width}
use Rattle.ps_words.specs.declared.order.Order.{Order}
use Rattle.ps_words.specs.declared.edit.Edit.{Edit}
use Rattle.ps_words.specs.FaultPlaces.{in_reference}
use Rattle.ps_words.specs.declared.fault.Fault.{Fault}
use Rattle.ps_words.specs.declared.fault.Reason.{Reason}
use Rattle.ps_codefile.specs.Procedures.{is_reserved, ProcedureTables}
use Rattle.ps_reading.specs.Sources.{Segment}
use Rattle.ps_resolve.specs.References.{Known}
use Rattle.ps_resolve.specs.Faults.{references_fault_from, size_fault}
use Rattle.ps_resolve.specs.Operands.{reference_reason, refs_fault}
use Rattle.ps_resolve.specs.Stops.{IsStop}
use Rattle.ps_reading.specs.declared.locations.RecordAt.{RecordAt}
use Rattle.ps_resolve.specs.declared.linkage.Stop.{Stop}
use Rattle.ps_resolve.specs.declared.references.Target.{Target}

-- why there is no operand at x, where these are taken
abbrev pub reason_in : ProcedureTables → List (ℕ × ℕ) → Target → ℕ → Option Reason
reason_in tables taken target x = reference_reason
    (is_reserved tables.order tables.code) tables.code taken target x

-- the first fault of the references of a record that is there, where these operands are taken
abbrev pub refs_fault_at : RecordAt → ProcedureTables → Target → List (ℕ × ℕ)
    → List ℕ → Option Fault
refs_fault_at place tables target taken refs =
    option_map (λ f. in_reference place.segment.file place.segment.slot place.rec f.0 f.1)
    (refs_fault (is_reserved tables.order tables.code) tables.code target 0 taken refs)

-- no segment from this one on has a fault of its references, or this is the first, or memory ran
-- out
abbrev pub AreOfReferences : Order → Known → ℕ → List Segment → Stop → Type 0
AreOfReferences order known free segs = IsStop ⊤ (references_fault_from order known free segs)

-- the host's data size is too large, so this is its fault
abbrev pub IsOfSize : Order → ℕ → Segment → Stop → Type 0
IsOfSize order words s = IsStop ⊥ (size_fault order words s)

-- an edit of reserved places before the segment's number, so no reference's edit and not the
-- number's covers one of them
pub record IsOfTable (order : Order) (code : List ℕ) (e : Edit) : Type 0 where
  pub storable : IsStorable e
  pub before : place_of e + width e ≤ length code - 2
  pub reserved : (p : ℕ) → covers p e ≡ true → is_reserved order code p ≡ true

-- the edit of the data size, in the host's segment
abbrev pub data_size_edit : Bool → Edit → Option Edit
data_size_edit true size = Some size
data_size_edit false size = None
