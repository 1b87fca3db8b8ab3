-- Why nothing is made of files, with the name of what a fault is about.
use Rattle.std.specs.Prelude.{◌≡◌, ℕ, List}
use Rattle.ps_words.specs.declared.fault.Fault.{Fault}
use Rattle.ps_resolve.specs.FaultNames.{fault_name}
use Rattle.ps_resolve.specs.declared.linkage.Stop.{Stop}
use Rattle.ps_resolve.specs.declared.linkage.Stop.TheVariants as stop
use Rattle.ps_linkfile.specs.declared.unmade.Refusal.{Refusal}
use Rattle.ps_linkfile.specs.declared.unmade.Unmade.{Unmade}
use Rattle.ps_linkfile.specs.declared.unmade.Unmade.TheVariants.{Refused, Memory}

-- the refusal of these files for a fault, with the name of what it is about
abbrev pub refusal_of : List ℕ → List (List ℕ) → Fault → Refusal
refusal_of host libs f = record { fault = f; name = fault_name host libs f }

-- why nothing is made of these files, whose link was stopped
abbrev pub unmade_of : List ℕ → List (List ℕ) → Stop → Unmade
unmade_of host libs (stop.Refused f) = Refused (refusal_of host libs f)
unmade_of host libs stop.Memory = Memory

-- a refusal of these files has the name of what its fault is about
abbrev pub HasItsName : List ℕ → List (List ℕ) → Refusal → Type 0
HasItsName host libs r = r.name ≡ fault_name host libs r.fault
