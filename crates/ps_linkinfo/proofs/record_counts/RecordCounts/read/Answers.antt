use Rattle.ps_linkinfo.proofs.Vocabulary.{◌≡◌, ◌++◌, ◌∷◌, ◌∙◌, [], arith, sym, subst, Walk, whole_walk}
use Rattle.ps_linkinfo.proofs.Tallies.{few_records, few_references}
use Rattle.ps_linkinfo.proofs.Walks.{Walked, walked_first, walked_more, walked_fits, walked_on}
use Rattle.ps_linkinfo.proofs.record_counts.RecordCounts.read.Goals as goal

pub loop-item-init : goal.loop-item-init
loop-item-init c =
    let start : c.into_iter-item-iterator.result ≡ whole_walk c.args.order c.args.bytes.now =
    c.into_iter-item-iterator.ensures.into_iter_gives ∙ c.new-item-items.ensures in (
      [],
      subst (λ (w : Walk). Walked c.args.order c.args.bytes.now w []) (sym start)
          (walked_first c.args.order c.args.bytes.now),
      c.new-counts.ensures,
    )

pub add-requires-clause-few : goal.add-requires-clause-few
add-requires-clause-few c = grind (arith, few_records, walked_fits)

pub add-requires-clause-room : goal.add-requires-clause-room
add-requires-clause-room c = grind (arith, few_references, walked_fits)

pub loop-item-preserved : goal.loop-item-preserved
loop-item-preserved c =
    let rs = c.loop-item.invariant.0 in
    let walked = walked_more _ _ c.loop-item.item-iterator c.next.new.self rs c.in-Some.item
    c.in-Ok.record c.loop-item.invariant.1 c.in-Some.ensures.steps c.in-Ok.is in (
      rs ++ c.in-Ok.record ∷ [],
      walked,
      c.add.ensures rs c.loop-item.invariant.2
          (walked_on _ _ c.loop-item.item-iterator c.next.new.self rs c.in-Some.item c.in-Ok.record
          c.loop-item.invariant.1 c.in-Some.ensures.steps c.in-Ok.is),
    )
