use Rattle.ps_listing.proofs.Vocabulary.{◌∙◌, SLOTS, Some, filter_map, slots, sym}
use Rattle.ps_listing.specs.Listed.{segment_at}
use Rattle.ps_listing.proofs.ListLemmas.{none_more, one_more}
use Rattle.ps_listing.proofs.segments.segments_in.Goals.{in-Some+in_ok-push, in_default}
use Rattle.ps_listing.proofs.segments.segments_in.Goals as goal

pub loop-slot-preserved : goal.loop-slot-preserved
loop-slot-preserved g c =
    let l = c.loop-slot in
    let f = segment_at c.args.dict.now.order c.args.dict.now.file in
    let all = filter_map f slots in
    let lt = c.loop-slot-test.true in
    let found = sym c.segment_at.ensures in
    elim c.match-segment_at.branch [
      | in-Some+in_ok-push w ↦ rw (w.list-is, w.in_ok-push.ensures.items)
          (one_more f all l.list.items SLOTS l.slot (Some w.in-Some.segment) lt
          (found ∙ w.in-Some.is) l.invariant)
      | in_default w ↦ rw w.list-is (none_more f all l.list.items SLOTS l.slot lt
          (found ∙ w.in_default.is) l.invariant)
    ]
