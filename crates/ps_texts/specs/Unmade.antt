-- Why a text is not made: files that are refused, or want of memory.
use Rattle.std.specs.Prelude.{◌≡◌, ℕ, ⊤, List, Result, Some, Err}
use Rattle.ps_words.specs.FaultPlaces.{in_file}
use Rattle.ps_words.specs.declared.fault.Fault.{Fault}
use Rattle.ps_words.specs.declared.fault.Reason.{Reason}
use Rattle.ps_resolve.specs.FaultParts.{HasItsParts}
use Rattle.ps_resolve.specs.Sources.{order_of}
use Rattle.ps_resolve.specs.Standing.{IsFirst, NoneStandsInReading}
use Rattle.ps_linkfile.specs.Refusals.{HasItsName}
use Rattle.ps_linkfile.specs.ShowText.{show_fault}
use Rattle.ps_linkfile.specs.declared.unmade.Refusal.{Refusal}
use Rattle.ps_linkfile.specs.declared.unmade.Unmade.{Unmade}
use Rattle.ps_linkfile.specs.declared.unmade.Unmade.TheVariants.{Refused, Memory}
use Rattle.ps_texts.specs.UnitNames.{HasNames, names_had, names_wanted}
use Rattle.ps_texts.specs.declared.kinds.HostText.{HostText}
use Rattle.ps_texts.specs.declared.kinds.HostText.TheVariants as of_host
use Rattle.ps_texts.specs.declared.kinds.TextKind.{TextKind}
use Rattle.ps_texts.specs.declared.kinds.TextKind.TheVariants as kind

-- the files are refused for the first fault of all
abbrev pub IsFirstOf : List ℕ → List (List ℕ) → Fault → Type 0
IsFirstOf host libs f = IsFirst host libs f × HasItsParts (order_of host) host libs f

-- names of units are not found in a host's file that cannot be opened
abbrev pub HasNoNames : Result (List (List ℕ)) Reason → Fault → Type 0
HasNoNames found f = (why : Reason) × (found ≡ Err why) × (f ≡ in_file 0 why)

-- why the host's file is refused: what it has is told of each file that can be shown, and its type of
-- any
abbrev pub HostCanRefuse : HostText → List ℕ → Fault → Type 0
HostCanRefuse (of_host.Show form) host f = show_fault host ≡ Some f
HostCanRefuse of_host.Had host f = show_fault host ≡ Some f
HostCanRefuse of_host.CodeType host f = ⊥

-- why these files are refused: a text in which they have names is made of any files
abbrev pub CanRefuse : TextKind → List ℕ → List (List ℕ) → Fault → Type 0
CanRefuse (kind.OfLink what form) host libs f = IsFirstOf host libs f
CanRefuse (kind.OfHost what) host libs f = HostCanRefuse what host f
CanRefuse kind.Wanted host libs f = HasNoNames (names_wanted host libs) f
CanRefuse (kind.Named what) host libs f = ⊥

-- why these files are refused, with the name of what the fault is about
abbrev pub IsRefusedFor : TextKind → List ℕ → List (List ℕ) → Refusal → Type 0
IsRefusedFor k host libs r = CanRefuse k host libs r.fault × HasItsName host libs r

-- memory is requested for names of units only where there is one, and for a show and a type not at
-- all
abbrev pub HostCanLackMemory : HostText → List ℕ → Type 0
HostCanLackMemory (of_host.Show form) host = ⊥
HostCanLackMemory of_host.Had host = HasNames (names_had host)
HostCanLackMemory of_host.CodeType host = ⊥

-- and for a text of a link only once the files were read and have no fault
abbrev pub CanLackMemory : TextKind → List ℕ → List (List ℕ) → Type 0
CanLackMemory (kind.OfLink what form) host libs = NoneStandsInReading host libs
CanLackMemory (kind.OfHost what) host libs = HostCanLackMemory what host
CanLackMemory kind.Wanted host libs = HasNames (names_wanted host libs)
CanLackMemory (kind.Named what) host libs = ⊤

-- why the text of these files is not made
abbrev pub WhyUnmade : TextKind → List ℕ → List (List ℕ) → Unmade → Type 0
WhyUnmade k host libs (Refused r) = IsRefusedFor k host libs r
WhyUnmade k host libs Memory = CanLackMemory k host libs
