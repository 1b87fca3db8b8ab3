use Rattle.std.proofs.Common.{arith, ◌∙◌, sym, take_all}
use Rattle.ps_reading.proofs.RequestQueue.{kept_more, no_references}
use Rattle.ps_reading.proofs.NumberedRecords.{one, none}
use Rattle.ps_reading.specs.declared.reading.added.TheConstants.{MAX_REQUESTED}
use Rattle.ps_reading.proofs.reading.added.enqueue_records.Goals as goal

pub returns-then-units-eq0 : goal.returns-then-units-eq0
returns-then-units-eq0 c =
    let s = c.args.place in
    let queue = c.args.queue.now.items in
    let none_new = no_references s.file s.slot 0 c.args.records.now
    (sym c.units.ensures ∙ c.if-units-eq0.true) in
    grind (arith, take_all MAX_REQUESTED queue c.requires)

pub loop-rec-init : goal.loop-rec-init
loop-rec-init c = grind arith

pub loop-rec-preserved : goal.loop-rec-preserved
loop-rec-preserved c =
    let step = one c.loop-rec.invariant.left c.in-Some.ensures.steps in
    grind (arith, kept_more)

pub enqueue_record-requires : goal.enqueue_record-requires
enqueue_record-requires c = c.loop-rec.invariant.few

pub returns : goal.returns
returns c =
    let queue = c.loop-rec.queue.items in
    let end = none c.loop-rec.invariant.left c.in-None.ensures.steps.0 in
    sym (take_all MAX_REQUESTED queue c.loop-rec.invariant.few) ∙ end.1
