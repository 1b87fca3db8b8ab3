use Rattle.std.proofs.Common.{◌∙◌, get_or, arith}
use Rattle.ps_patch.proofs.Finds.{patched_step}
use Rattle.ps_patch.proofs.whole.apply.Goals as goal

pub loop-edit-preserved : goal.loop-edit-preserved
loop-edit-preserved c = λ p.
    let stored = c.store_at.ensures.bytes p p (omega (arith, c.place.ensures)) in
    patched_step c.args.order (get_or c.loop-edit.code p 0)
    (get_or c.store_at.new.bytes p 0) c.args.edits.now c.loop-edit.edit-index _ p
    c.loop-edit-test.true c.requires.apart stored
    ∙ c.loop-edit.invariant p
