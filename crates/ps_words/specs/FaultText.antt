-- Numbers and names of the reasons, and the text of a fault.
use Rattle.std.specs.Prelude.{ℕ, ◌==◌, List, [], ◌∷◌, ◌++◌, codes, decimal, Option, Some, None}
use Rattle.std.specs.List.{find}
use Rattle.ps_words.specs.declared.fault.Reason.{Reason}
use Rattle.ps_words.specs.declared.fault.Reason.TheVariants as reason
use Rattle.ps_words.specs.declared.fault.Fault.{Fault}

-- the number of a reason
abbrev pub number_of : Reason → ℕ
number_of reason.ShortFile = 1
number_of reason.NoOrder = 2
number_of reason.OrderMismatch = 3
number_of reason.NoHost = 4
number_of reason.TwoHosts = 5
number_of reason.DoubledSegment = 6
number_of reason.SegmentProcedure = 7
number_of reason.NativeSegment = 8
number_of reason.Intrinsic = 9
number_of reason.UnknownKind = 10
number_of reason.BadLength = 11
number_of reason.BadAddress = 12
number_of reason.MissingUnit = 13
number_of (reason.NotAUnit kind) = 14
number_of reason.DoubledUnit = 15
number_of reason.Truncated = 16
number_of reason.BadProcDict = 17
number_of reason.NativeProcedure = 18
number_of reason.RecordsTruncated = 19
number_of reason.UnknownRecord = 20
number_of reason.NativeRecord = 21
number_of reason.SeparateRecord = 22
number_of reason.BadFormat = 23
number_of reason.DoubledDefinition = 24
number_of reason.DoubledPrivate = 25
number_of reason.NoRoom = 26
number_of reason.DataTooLarge = 27
number_of reason.MissingDefinition = 28
number_of reason.IllKind = 29
number_of reason.MissingUnitRef = 30
number_of reason.OutsideCode = 31
number_of reason.ReservedPlace = 32
number_of reason.Overlap = 33
number_of reason.OperandTooLarge = 34
number_of reason.NoSlot = 35

-- the name of a reason
abbrev pub name_of : Reason → List ℕ
name_of reason.ShortFile = codes "ShortFile"
name_of reason.NoOrder = codes "NoOrder"
name_of reason.OrderMismatch = codes "OrderMismatch"
name_of reason.NoHost = codes "NoHost"
name_of reason.TwoHosts = codes "TwoHosts"
name_of reason.DoubledSegment = codes "DoubledSegment"
name_of reason.SegmentProcedure = codes "SegmentProcedure"
name_of reason.NativeSegment = codes "NativeSegment"
name_of reason.Intrinsic = codes "Intrinsic"
name_of reason.UnknownKind = codes "UnknownKind"
name_of reason.BadLength = codes "BadLength"
name_of reason.BadAddress = codes "BadAddress"
name_of reason.MissingUnit = codes "MissingUnit"
name_of (reason.NotAUnit kind) = codes "NotAUnit"
name_of reason.DoubledUnit = codes "DoubledUnit"
name_of reason.Truncated = codes "Truncated"
name_of reason.BadProcDict = codes "BadProcDict"
name_of reason.NativeProcedure = codes "NativeProcedure"
name_of reason.RecordsTruncated = codes "RecordsTruncated"
name_of reason.UnknownRecord = codes "UnknownRecord"
name_of reason.NativeRecord = codes "NativeRecord"
name_of reason.SeparateRecord = codes "SeparateRecord"
name_of reason.BadFormat = codes "BadFormat"
name_of reason.DoubledDefinition = codes "DoubledDefinition"
name_of reason.DoubledPrivate = codes "DoubledPrivate"
name_of reason.NoRoom = codes "NoRoom"
name_of reason.DataTooLarge = codes "DataTooLarge"
name_of reason.MissingDefinition = codes "MissingDefinition"
name_of reason.IllKind = codes "IllKind"
name_of reason.MissingUnitRef = codes "MissingUnitRef"
name_of reason.OutsideCode = codes "OutsideCode"
name_of reason.ReservedPlace = codes "ReservedPlace"
name_of reason.Overlap = codes "Overlap"
name_of reason.OperandTooLarge = codes "OperandTooLarge"
name_of reason.NoSlot = codes "NoSlot"

-- the kind word that a reason carries
abbrev pub kind_of : Reason → Option ℕ
kind_of (reason.NotAUnit kind) = Some kind
kind_of why = None

-- each reason, in the order of their numbers; an entry that is no unit has this kind word
abbrev pub reasons : ℕ → List Reason
reasons kind =
    reason.ShortFile ∷ reason.NoOrder ∷ reason.OrderMismatch ∷ reason.NoHost
    ∷ reason.TwoHosts ∷ reason.DoubledSegment ∷ reason.SegmentProcedure
    ∷ reason.NativeSegment ∷ reason.Intrinsic ∷ reason.UnknownKind ∷ reason.BadLength
    ∷ reason.BadAddress ∷ reason.MissingUnit ∷ reason.NotAUnit kind
    ∷ reason.DoubledUnit ∷ reason.Truncated ∷ reason.BadProcDict ∷ reason.NativeProcedure
    ∷ reason.RecordsTruncated ∷ reason.UnknownRecord
    ∷ reason.NativeRecord ∷ reason.SeparateRecord ∷ reason.BadFormat
    ∷ reason.DoubledDefinition ∷ reason.DoubledPrivate ∷ reason.NoRoom
    ∷ reason.DataTooLarge ∷ reason.MissingDefinition ∷ reason.IllKind
    ∷ reason.MissingUnitRef ∷ reason.OutsideCode ∷ reason.ReservedPlace
    ∷ reason.Overlap ∷ reason.OperandTooLarge ∷ reason.NoSlot ∷ []

-- the reason of this number, where one has it
abbrev pub reason_of : ℕ → ℕ → Option Reason
reason_of number kind = find (λ why. number_of why == number) (reasons kind)

-- a label and a number, as ` slot 7`, and nothing where there is no number
abbrev pub part_text : List ℕ → Option ℕ → List ℕ
part_text label None = []
part_text label (Some n) = codes " " ++ (label ++ (codes " " ++ decimal n))

-- `refused 14 NotAUnit kind 5 file 1 slot 7`, or `refused 33 Overlap file 0 slot 7 record 1
-- reference 0`
abbrev pub fault_text : Fault → List ℕ
fault_text f =
    codes "refused " ++ (decimal (number_of f.reason)
    ++ (codes " " ++ (name_of f.reason ++ (part_text (codes "kind") (kind_of f.reason)
    ++ (codes " file " ++ (decimal f.file ++ (part_text (codes "slot") f.slot
    ++ (part_text (codes "record") f.rec ++ part_text (codes "reference") f.reference))))))))
