-- What a link leaves in its writer, and what each of its errors says.
use Rattle.std.specs.Prelude.{◌≡◌, ◌≢◌, ℕ, List, Option, Some, None, ⊤}
use Rattle.std.specs.Io.KnownBytes.{Appends}
use Rattle.ps_words.specs.FaultText.{number_of}
use Rattle.ps_resolve.specs.AllFaults.{first_fault, reading_fault}
use Rattle.ps_resolve.specs.FaultParts.{HasItsParts}
use Rattle.ps_resolve.specs.Sources.{order_of}
use Rattle.ps_resolve.specs.Standing.{NoneStandsInReading, IsFirst, NoneStands}
use Rattle.ps_resolve.specs.declared.linkage.Stop.{Stop}
use Rattle.ps_resolve.specs.declared.linkage.Stop.TheVariants as stop
use Rattle.ps_linkfile.specs.LinkedFile.{LinkedFile}
use Rattle.ps_writing.specs.Prefixes.{AppendsPrefix}
use Rattle.ps_linkfile.specs.declared.error.LinkError.{LinkError}
use Rattle.ps_linkfile.specs.declared.error.LinkError.TheVariants.{Refused, Memory, Write}

-- a known writer takes the linked file
abbrev pub AppendsLinkedFile : List ℕ → List (List ℕ) → Option (List ℕ)
    → Option (List ℕ) → Type 0
AppendsLinkedFile host libs old new = (file : List ℕ)
    × (LinkedFile host libs file × Appends old new file)

-- the error of a link that has no plan
abbrev pub error_of : Stop → LinkError
error_of (stop.Refused fault) = Refused fault
error_of stop.Memory = Memory

-- why nothing is linked: the first fault of all, or memory ran out where the files were read
-- without a fault; never a write
abbrev pub IsUnprepared : List ℕ → List (List ℕ) → LinkError → Type 0
IsUnprepared host libs (Refused fault) = first_fault host libs ≡ Some fault
IsUnprepared host libs Memory = reading_fault host libs ≡ None
IsUnprepared host libs (Write fault) = ⊥

-- why a link is not made: as it is not prepared, or a write failed, which it does only where no
-- fault applies
abbrev pub IsUnlinked : List ℕ → List (List ℕ) → LinkError → Type 0
IsUnlinked host libs (Refused fault) = first_fault host libs ≡ Some fault
IsUnlinked host libs Memory = reading_fault host libs ≡ None
IsUnlinked host libs (Write fault) = first_fault host libs ≡ None

-- the fault that a refusal names is the first of all that apply, and has just the parts of its
-- number; memory runs out only where no fault applies in the steps of reading, and a write fails
-- only where none applies
abbrev pub NamesFirst : List ℕ → List (List ℕ) → LinkError → Type 0
NamesFirst host libs (Refused fault) = IsFirst host libs fault
    × HasItsParts (order_of host) host libs fault
NamesFirst host libs Memory = NoneStandsInReading host libs
NamesFirst host libs (Write fault) = NoneStands host libs

-- a refusal has a number that is still used: 30 no longer is
abbrev pub HasUsedNumber : LinkError → Type 0
HasUsedNumber (Refused fault) = number_of fault.reason ≢ 30
HasUsedNumber other = ⊤

-- the writer is as it was, unless a write failed
abbrev pub LeavesUntouched : {W : Type 0} → LinkError → W → W → Type 0
LeavesUntouched (Write fault) old new = ⊤
LeavesUntouched other old new = new ≡ old

-- where a write failed, a known writer took a prefix of the linked file
abbrev pub LeavesPrefix : List ℕ → List (List ℕ) → LinkError → Option (List ℕ)
    → Option (List ℕ) → Type 0
LeavesPrefix host libs (Write fault) old new =
    (file : List ℕ) × (LinkedFile host libs file × AppendsPrefix old new file)
LeavesPrefix host libs other old new = ⊤
