use Rattle.ps_resolve.proofs.AllottedPrivates.{Allots}
use Rattle.ps_reading.proofs.NumberedRecords.{IsLeft}
use Rattle.ps_resolve.proofs.allotment.allot.Given as goal

-- the privates so far and those of what is left are all, and so with words and faults
abbrev pub invariant-loop-rec : goal.invariant-loop-rec
invariant-loop-rec g l = IsLeft
    (Allots l.place.slot l.next l.duplicate l.fn.privates.items l.records l.privates.items l.free)
    l.rec-iterator
