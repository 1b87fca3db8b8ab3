use Rattle.ps_reading.proofs.KnownNames.{HaveRequested}
use Rattle.ps_reading.proofs.reading.added.requested_by.Given as goal

-- the queue so far is that of the segments so far
abbrev pub invariant-loop-index : goal.invariant-loop-index
invariant-loop-index l = HaveRequested l.units l.own l.index l.queue.items
