use Rattle.ps_linkfile.proofs.Vocabulary.{reading, ◌≤◌, ◌+◌, ◌/◌, length, items_left, record_fault_in, record_in, records_in}
use Rattle.ps_linkfile.proofs.Walks.{walked}
use Rattle.ps_writing.proofs.Written.{Written}
use Rattle.ps_linkfile.proofs.show.add_records.Given as goal

-- the rows of what is left are still to be written
abbrev pub invariant-loop-item : goal.invariant-loop-item
invariant-loop-item g l = record {
  can : (goal.iterator-loop-item g).can_next l.item-iterator;
  finite : (goal.iterator-loop-item g).is_finite l.item-iterator;
  lines : Written g.S.TextWriter.added l.fn.text
      (records_in l.form l.units l.slot l.name (reading l.fn.order l.information))
      (walked (record_in l.form l.units) (record_fault_in l.form l.slot l.name) l.rec
      (items_left l.item-iterator))
      l.text;
  few : l.rec + length (items_left l.item-iterator) ≤ length l.information / 16 + 1;
}
