use Rattle.ps_writing.proofs.Vocabulary.{drop_more, drop, ap, sym, ◌∙◌, ◌∷◌, ◌+◌}
use Rattle.ps_writing.proofs.Numbered.{numbered_left}
use Rattle.ps_writing.proofs.Written.{all_stopped, some_more}
use Rattle.ps_writing.proofs.each.add_each_row.Goals as goal

pub loop-i-preserved : goal.loop-i-preserved
loop-i-preserved g c line h =
    let xs = c.args.items.now in
    let i = c.loop-i.i in
    let here = drop_more xs i _ c.loop-i-test.true
    ∙ ap (λ x. x ∷ drop (i + 1) xs) (sym c.index-items-i.is) in
    some_more (numbered_left line xs i _ here) (c.loop-i.invariant line h) (h _ i _ _ c.loop-i-test.true c.index-items-i.is c.add.ensures)

pub returns-then-has_failed : goal.returns-then-has_failed
returns-then-has_failed g c line h = all_stopped (c.loop-i.invariant line h)
    (c.has_failed.ensures c.if-has_failed.true _)
