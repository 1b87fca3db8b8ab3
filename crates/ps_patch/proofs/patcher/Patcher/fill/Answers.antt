use Rattle.std.proofs.Common.{get_or, rules}
use Rattle.ps_patch.proofs.UnderWay.{block_over, block_patched}
use Rattle.ps_patch.proofs.patcher.Patcher.fill.Goals as goal

pub invariant_of-self : goal.invariant_of-self
invariant_of-self c =
    let stored = c.store_all-self-inside.ensures in
    block_over _ _ c.store_all-self-inside.result c.copy_block-count.result c.self.invariant
    c.copy_block-count.ensures.count stored.within stored.before stored.over

pub returns-clause-block : goal.returns-clause-block
returns-clause-block c = λ k lt.
    rw (← c.self.view_is) (block_patched _ _ k (get_or c.copy_block-count.new.block k 0)
    (get_or c.store_all-self-inside.new.block k 0) c.self.invariant
    (c.copy_block-count.ensures.block k lt) (c.store_all-self-inside.ensures.block k lt))

pub returns-clause-moves : goal.returns-clause-moves
returns-clause-moves c = search rules
