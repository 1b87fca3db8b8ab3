-- Links that are refused, each for one fault.
-- Source: this project's examples.
use Rattle.std.specs.Prelude.{◌≡◌, ℕ, List, Option, Some, option_map}
use Rattle.ps_words.specs.declared.fault.Fault.{Fault}
use Rattle.ps_resolve.specs.AllFaults.{first_fault}
use Rattle.ps_linkfile.specs.Refusals.{refusal_of}

-- the link of these files is refused for this fault, with this name of what the fault is about
abbrev pub IsRefusedWith : List ℕ → List (List ℕ) → Fault → Option (List ℕ) → Type 0
IsRefusedWith host libs f name =
    option_map (refusal_of host libs) (first_fault host libs) ≡ Some
    (record { fault = f; name = name })
