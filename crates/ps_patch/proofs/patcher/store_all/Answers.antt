use Rattle.std.proofs.Common.{◌∙◌, ◌+◌, get_or, sym, arith}
use Rattle.std.proofs.lemmas.Bool.{ltb-false, ltb-true}
use Rattle.ps_words.specs.declared.edit.Edit.TheVariants.{Big}
use Rattle.ps_patch.proofs.Finds.{find_step, patched_last, patched_step}
use Rattle.ps_patch.proofs.patcher.store_all.Goals as goal

pub loop-index-preserved : goal.loop-index-preserved
loop-index-preserved c = grind (arith, ltb-false, patched_step, find_step)

pub returns-then-store_in_block-clause-block : goal.returns-then-store_in_block-clause-block
returns-then-store_in_block-clause-block c =
    let over = ltb-true (c.args.from + 512) _
    (sym c.store_in_block.ensures.over ∙ c.if-store_in_block.true) in
    λ k lt.
    patched_last c.args.order (get_or c.loop-index.block k 0)
    (get_or c.store_in_block.new.block k 0) c.args.edits.now c.loop-index.index (Big 0 0)
    (c.args.from + k) c.loop-index-test.true c.requires.apart
    (omega (arith, lt, over)) (c.store_in_block.ensures.block k lt)
    ∙ c.loop-index.invariant.block k lt
