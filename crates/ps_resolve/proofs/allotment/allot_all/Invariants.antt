use Rattle.ps_resolve.proofs.Vocabulary.{drop, map}
use Rattle.ps_resolve.proofs.AllottedPrivates.{AllotsAll}
use Rattle.ps_resolve.proofs.allotment.allot_all.Given as goal

-- the privates so far and those of the segments that are left are all, and so with words and faults
abbrev pub invariant-loop-segment : goal.invariant-loop-segment
invariant-loop-segment g l = AllotsAll l.next (map g.S.RequestsPrivates.owner l.segments)
    l.privates.items l.end (map g.S.RequestsPrivates.owner (drop l.segment-index l.segments))
