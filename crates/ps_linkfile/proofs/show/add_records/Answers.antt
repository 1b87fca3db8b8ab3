use Rattle.ps_linkfile.proofs.Vocabulary.{arith, refl, record_fault_in, record_in}
use Rattle.ps_linkfile.proofs.Walks.{walked, walked_all}
use Rattle.ps_writing.proofs.Written.{none_yet, all_stopped}
use Rattle.ps_linkfile.proofs.show.add_records.Goals as goal

pub loop-item-init : goal.loop-item-init
loop-item-init g c = grind (
  arith,
  none_yet,
  walked,
  walked_all (record_in c.args.form c.args.units.now)
      (record_fault_in c.args.form c.args.slot c.args.name) (λ n. refl),
)

pub returns-then-has_failed : goal.returns-then-has_failed
returns-then-has_failed g c = all_stopped c.loop-item.invariant.lines
    (c.has_failed.ensures c.if-has_failed.true _)
