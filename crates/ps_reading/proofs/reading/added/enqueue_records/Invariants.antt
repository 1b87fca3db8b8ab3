use Rattle.std.proofs.Common.{◌≤◌, length}
use Rattle.ps_reading.proofs.RequestQueue.{Enqueues}
use Rattle.ps_reading.proofs.NumberedRecords.{IsLeft}
use Rattle.ps_reading.specs.declared.reading.added.TheConstants.{MAX_REQUESTED}
use Rattle.ps_reading.proofs.reading.added.enqueue_records.Given as goal

-- the queue so far and what the remaining records request make the whole queue
abbrev pub invariant-loop-rec : goal.invariant-loop-rec
invariant-loop-rec l = record {
  left : IsLeft (Enqueues l.units l.place.file l.place.slot l.records l.fn.queue.items
      l.queue.items) l.rec-iterator;
  few : length l.queue.items ≤ MAX_REQUESTED;
}
