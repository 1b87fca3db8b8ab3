use Rattle.ps_linkinfo.proofs.AtIndex.{IsAhead}
use Rattle.ps_linkinfo.proofs.information.LinkInformation.record.Given as goal

-- the record is among those that are left
abbrev pub invariant-loop-other : goal.invariant-loop-other
invariant-loop-other l = IsAhead l.self l.rec l.other-iterator
