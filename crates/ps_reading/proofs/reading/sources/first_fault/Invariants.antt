use Rattle.ps_reading.proofs.Vocabulary.{◌≡◌, drop, Option, Fault, first_of}
use Rattle.ps_reading.proofs.reading.sources.first_fault.Given as goal

-- the first fault is that of what is left
abbrev pub invariant-loop-fault : goal.invariant-loop-fault
invariant-loop-fault l = first_of (λ (fault : Option Fault). fault) l.faults
    ≡ first_of (λ (fault : Option Fault). fault) (drop l.fault-index l.faults)
