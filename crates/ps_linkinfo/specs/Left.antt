-- What a walk over link information has left to give.
use Rattle.std.specs.Prelude.{List, [], ◌∷◌, ◌++◌, drop, map, if◌then◌else◌, Option, Some, None, Result, Ok, Err, filter_map}
use Rattle.std.specs.Result.{result_ok}
use Rattle.ps_linkinfo.specs.Records.{reading}
use Rattle.ps_linkinfo.specs.Walk.{Walk}
use Rattle.ps_words.specs.declared.fault.Reason.{Reason}
use Rattle.ps_linkinfo.specs.declared.record.LinkRecord.{LinkRecord as Record}

-- the items of a reading: its records, and then its fault
abbrev pub items_of : List Record × Option Reason → List (Result Record Reason)
items_of read = map (λ r. Ok r) read.0 ++
    (elim read.1 [ None ↦ [] | Some why ↦ Err why ∷ [] ])

-- the items of the reading of the bytes from `used` on
unfoldable pub items_at : Walk → List (Result Record Reason)
items_at w = items_of (reading w.order (drop w.used w.bytes))

-- the items that are left: none once the walk has ended
abbrev pub items_left : Walk → List (Result Record Reason)
items_left w = if w.ended then [] else items_at w

-- the records that are left
abbrev pub records_left : Walk → List Record
records_left w = filter_map result_ok (items_left w)

-- the fault among some items
abbrev pub fault_among : List (Result Record Reason) → Option Reason
fault_among [] = None
fault_among (Ok r ∷ items) = fault_among items
fault_among (Err why ∷ items) = Some why

-- the fault that is left, if any
abbrev pub fault_left : Walk → Option Reason
fault_left w = fault_among (items_left w)
