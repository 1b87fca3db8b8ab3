use Rattle.ps_linkinfo.proofs.Walks.{Walked}
use Rattle.ps_linkinfo.proofs.reader.read_records.Given as goal

-- the list has the records that were given
abbrev pub invariant-loop-item : goal.invariant-loop-item
invariant-loop-item g l = record {
  can : (goal.iterator-loop-item g).can_next l.item-iterator;
  finite : (goal.iterator-loop-item g).is_finite l.item-iterator;
  walked : Walked l.fn.order l.fn.bytes l.item-iterator l.records.items;
}
