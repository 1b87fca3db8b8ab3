-- Why nothing is made of files, and why a call leaves the caller's room as it was.
use Rattle.std.specs.Prelude.{◌≡◌, ◌≢◌, ℕ, ◌<◌, ◌≤◌, List, length, sum}
use Rattle.ps_resolve.specs.FaultParts.{HasItsParts}
use Rattle.ps_resolve.specs.Sources.{order_of}
use Rattle.ps_resolve.specs.Standing.{IsFirst, NoneStandsInReading}
use Rattle.ps_linkfile.specs.LinkedFile.{LinkedFile}
use Rattle.ps_linkfile.specs.Refusals.{HasItsName}
use Rattle.ps_linkfile.specs.declared.unmade.Refusal.{Refusal}
use Rattle.ps_linkfile.specs.declared.unmade.Unmade.{Unmade}
use Rattle.ps_linkfile.specs.declared.unmade.Unmade.TheVariants.{Refused, Memory}
use Rattle.ps_c_link.specs.Libraries.{split}
use Rattle.ps_c_link.specs.declared.libraries.TheConstants.{LIBRARIES_IN_PLACE}
use Rattle.ps_c_link.specs.declared.linking.TheConstants.{LINKED_MAX}
use Rattle.ps_c_link.specs.declared.outcome.CallError.{CallError}
use Rattle.ps_c_link.specs.declared.outcome.CallError.TheVariants as call
use Rattle.ps_c_link.specs.declared.outcome.TooSmall.{TooSmall}
use Rattle.ps_c_link.specs.declared.outcome.Unput.{Unput}
use Rattle.ps_c_link.specs.declared.outcome.Unput.TheVariants as unput
use Rattle.ps_c_link.specs.declared.outcome.WrongInputs.{WrongInputs}
use Rattle.ps_c_link.specs.declared.outcome.WrongInputs.TheVariants as wrong

-- the files are refused for the first fault of all, with the name of what it is about
abbrev pub IsFirstRefusal : List ℕ → List (List ℕ) → Refusal → Type 0
IsFirstRefusal host libs r = IsFirst host libs r.fault
    × HasItsParts (order_of host) host libs r.fault × HasItsName host libs r

-- the text has so many bytes, and more than there is room for
abbrev pub IsAbove : List ℕ → List ℕ → TooSmall → Type 0
IsAbove bytes room t = (t.size ≡ length bytes) × (length room < t.size)

-- why nothing is made of a link: the first fault of all, or no memory where the files were read
-- without a fault
abbrev pub WhyUnlinked : List ℕ → List (List ℕ) → Unmade → Type 0
WhyUnlinked host libs (Refused r) = IsFirstRefusal host libs r
WhyUnlinked host libs Memory = NoneStandsInReading host libs

-- why the linked file is not put in this room
abbrev pub WhyLinkUnput : List ℕ → List ℕ → List (List ℕ) → Unput → Type 0
WhyLinkUnput room host libs (unput.Unmade why) = WhyUnlinked host libs why
WhyLinkUnput room host libs (unput.TooSmall t) =
    (t.size ≤ LINKED_MAX) × ((file : List ℕ) × (LinkedFile host libs file × IsAbove file room t))

-- Why a call whose libraries are one after another puts nothing: their lengths are wrong, or what
-- `P` says of the libraries, of which more than have a place on the stack need memory before they
-- are read.
abbrev pub WhyCallFails : (List (List ℕ) → Unput → Type 0) → List ℕ → List ℕ
    → CallError → Type 0
WhyCallFails P libs lengths call.WrongLengths = sum lengths ≢ length libs
WhyCallFails P libs lengths (call.Unput (unput.Unmade Memory)) = (sum lengths ≡ length libs)
    × (length lengths ≤ LIBRARIES_IN_PLACE → P (split libs lengths) (unput.Unmade Memory))
WhyCallFails P libs lengths (call.Unput (unput.Unmade (Refused r))) =
    (sum lengths ≡ length libs) × P (split libs lengths) (unput.Unmade (Refused r))
WhyCallFails P libs lengths (call.Unput (unput.TooSmall t)) =
    (sum lengths ≡ length libs) × P (split libs lengths) (unput.TooSmall t)

-- what is wrong with inputs: the lengths, or, where these are right, the names
abbrev pub WhyWrong : Type 0 → Type 0 → WrongInputs → Type 0
WhyWrong Lengths Names wrong.Lengths = Lengths → ⊥
WhyWrong Lengths Names wrong.Names = Lengths × (Names → ⊥)
