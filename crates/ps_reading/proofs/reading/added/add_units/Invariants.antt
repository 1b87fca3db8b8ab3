use Rattle.ps_reading.proofs.Vocabulary.{◌≤◌, length, All, opened, IsRead, MAX_REQUESTED}
use Rattle.ps_reading.proofs.RequestQueue.{AreAdded}
use Rattle.ps_reading.proofs.reading.added.add_units.Given as goal

-- the rounds so far, with the segments in the table and the names that are kept
abbrev pub invariant-loop-round : goal.invariant-loop-round
invariant-loop-round l =
    let order = l.host.order in
    let libs = opened order l.libs in
    record {
      so_far : AreAdded order l.host.file libs l.units l.slots l.fn.queue.items l.queue.items
          l.fn.segments.items l.segments.items l.round;
      short : length l.queue.items ≤ MAX_REQUESTED;
      read : All (IsRead order l.host.file libs) l.segments.items;
    }
