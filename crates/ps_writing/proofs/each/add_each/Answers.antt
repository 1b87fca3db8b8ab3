use Rattle.ps_writing.proofs.Vocabulary.{drop_more, drop, ap, sym, ◌∙◌, ◌∷◌, ◌+◌}
use Rattle.ps_writing.proofs.Written.{items_left, some_more}
use Rattle.ps_writing.proofs.each.add_each.Goals as goal

pub loop-item-preserved : goal.loop-item-preserved
loop-item-preserved g c line h =
    let xs = c.args.items.now in
    let i = c.loop-item.item-index in
    let here = drop_more xs i _ c.loop-item-test.true
    ∙ ap (λ x. x ∷ drop (i + 1) xs) (sym c.item-item.is) in
    some_more (items_left line xs i _ here) (c.loop-item.invariant line h) (h _ _ _ c.add.ensures)
