use Rattle.ps_resolve.proofs.Vocabulary.{arith, rules, sym, ◌∙◌, ap, is_some, nat_tests, IsPartitionPoint-from_clause}
use Rattle.ps_resolve.proofs.PrivatesRise.{is_before, offset_seen, offset_none}
use Rattle.ps_resolve.proofs.allotment.Allotment.offset.Goals as goal
use Rattle.ps_resolve.proofs.allotment.Allotment.offset.Goals.{then-private-slot, else-private-slot}

pub returns-in_err-private : goal.returns-in_err-private
returns-in_err-private g c =
    c.from_residual.ensures
    ∙ offset_none c.args.slot c.args.rec c.args.self.now.privates (cc) (grind arith)
    (λ parted. IsPartitionPoint-from_clause (is_before c.args.slot c.args.rec) _ _
    c.partition_point-first.ensures.partitioned parted (λ a r q k. search rules))
    (sym c.get.ensures.lookup.0 ∙ ap is_some c.in_err-private.was)

pub returns : goal.returns
returns g c =
    c.then_some.ensures
    ∙ offset_seen c.args.slot c.args.rec c.args.self.now.privates (cc) (grind arith)
    (λ parted. IsPartitionPoint-from_clause (is_before c.args.slot c.args.rec) _ _
    c.partition_point-first.ensures.partitioned parted (λ a r q k. search rules))
    c.in_ok-private.private.now c.if-private-slot.then_some (grind (arith, nat_tests)) (grind arith)
    (elim c.if-private-slot.branch [
      | then-private-slot w ↦ grind (arith, nat_tests)
      | else-private-slot w ↦ grind (arith, nat_tests)
    ])
