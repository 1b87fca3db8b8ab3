-- The steps of a link, each of which looks for the faults of one kind of place, and the key of a
-- fault by which the first is known.
use Rattle.std.specs.Prelude.{ℕ, ◌+◌, List, [], ◌∷◌, Option, Some, None, unwrap_or}
use Rattle.ps_words.specs.FaultText.{number_of}
use Rattle.ps_words.specs.declared.fault.Reason.{Reason}
use Rattle.ps_words.specs.declared.fault.Fault.{Fault}
use Rattle.ps_words.specs.declared.fault.Reason.TheVariants as reason

-- the steps, each of which looks for the faults of one kind of place; each unit that is added has a
-- step of its own, its round
pub data Step : Type 0 where
  OfHost : Step
  OfSlots : Step
  OfNoHost : Step
  OfLibraries : Step
  OfSources : Step
  OfAdded : (k : ℕ) → Step
  OfDefinitions : Step
  OfPrivates : Step
  OfDataSize : Step
  OfReferences : Step

-- the place of a step among the steps: a fault of an earlier step comes first
abbrev pub turn : Step → ℕ
turn OfHost = 1
turn OfSlots = 2
turn OfNoHost = 3
turn OfLibraries = 4
turn OfSources = 5
turn (OfAdded k) = 6
turn OfDefinitions = 7
turn OfPrivates = 8
turn OfDataSize = 9
turn OfReferences = 10

-- the place of a reason among those of one place: where two are at the same place of the same step,
-- the smaller comes first; from Truncated (16) on it is the reason's number
abbrev pub rank : Reason → ℕ
rank reason.ShortFile = 0
rank reason.NoOrder = 1
rank reason.OrderMismatch = 2
rank reason.NoHost = 3
rank reason.SegmentProcedure = 4
rank reason.NativeSegment = 5
rank reason.Intrinsic = 6
rank reason.UnknownKind = 7
rank reason.TwoHosts = 8
rank reason.DoubledSegment = 9
rank reason.MissingUnit = 10
rank reason.NoSlot = 11
rank reason.DoubledUnit = 12
rank (reason.NotAUnit kind) = 13
rank reason.BadLength = 14
rank reason.BadAddress = 15
rank other = number_of other

-- a part of a key: a fault that has no such part comes before those that have one
abbrev pub part : Option ℕ → ℕ
part None = 0
part (Some n) = n + 1

-- the record that was read; a unit that is missing or has no slot is reported with the record that
-- requested it
abbrev pub record_read : Reason → Option ℕ → ℕ
record_read reason.MissingUnit rec = 0
record_read reason.NoSlot rec = 0
record_read other rec = part rec

-- what faults are ordered by: step; slot, or the library, or the round; record; reference; rank
abbrev pub key : Step → Fault → List ℕ
key (OfAdded k) f = turn (OfAdded k) ∷ k ∷ record_read f.reason f.rec ∷ part f.reference
    ∷ rank f.reason ∷ []
key step f = turn step ∷ unwrap_or f.slot f.file ∷ part f.rec ∷ part f.reference
    ∷ rank f.reason ∷ []
