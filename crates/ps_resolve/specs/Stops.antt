-- Why nothing was built.
use Rattle.std.specs.Prelude.{◌≡◌, ℕ, Bool, true, false, Option, Some, None, List, option_map}
use Rattle.ps_words.specs.FaultPlaces.{in_record}
use Rattle.ps_words.specs.declared.fault.Fault.{Fault}
use Rattle.ps_words.specs.declared.fault.Reason.TheVariants as reason
use Rattle.ps_linkinfo.specs.declared.record.LinkRecord.{LinkRecord as Record}
use Rattle.ps_reading.specs.declared.locations.RecordAt.{RecordAt}
use Rattle.ps_resolve.specs.declared.linkage.Stop.{Stop}
use Rattle.ps_resolve.specs.declared.linkage.Stop.TheVariants.{Refused, Memory}
use Rattle.ps_resolve.specs.Symbols.{first_duplicate}

-- there is this fault; or memory ran out, which is wanted only where this holds
abbrev pub IsStop : Type 0 → Option Fault → Stop → Type 0
IsStop wants fault (Refused f) = fault ≡ Some f
IsStop wants fault Memory = wants

-- the fault of the first record of a segment that defines a name again
abbrev pub duplicate_fault : ℕ → ℕ → List Record → Option Fault
duplicate_fault file slot rs = option_map (λ rec. in_record file slot rec reason.DoubledDefinition)
    (first_duplicate rs)

-- the fault of the record that is there, where its name is defined before
abbrev pub doubled_fault : RecordAt → Bool → Option Fault
doubled_fault place true =
    Some (in_record place.segment.file place.segment.slot place.rec reason.DoubledDefinition)
doubled_fault place false = None
