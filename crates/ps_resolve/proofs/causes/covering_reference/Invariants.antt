use Rattle.std.proofs.Common.{◌≡◌}
use Rattle.ps_linkinfo.specs.Numbered.{numbered_records}
use Rattle.ps_resolve.specs.Causes.{first_before}
use Rattle.ps_resolve.proofs.causes.covering_reference.Given as goal

-- the first of all is the first of those that are left
abbrev pub invariant-loop-rec : goal.invariant-loop-rec
invariant-loop-rec l = first_before l.place l.operand l.rec-iterator
    ≡ first_before l.place l.operand (numbered_records 0 l.records)
