use Rattle.ps_linkinfo.proofs.Vocabulary.{arith, ◌≡◌, List, Option, length, rules, subst, Reason, Stops, Record}
use Rattle.ps_linkinfo.proofs.OneReading.{is_reading, is_stop}
use Rattle.ps_linkinfo.proofs.Stands.{IsReadingOf, reading_is}
use Rattle.ps_linkinfo.proofs.Walks.{walked_first, walked_more, walked_all, walked_to_fault, walked_good}
use Rattle.ps_linkinfo.proofs.reader.read_records.Goals as goal

pub loop-item-init : goal.loop-item-init
loop-item-init g c = grind (arith, walked_first)

pub loop-item-preserved : goal.loop-item-preserved
loop-item-preserved g c =
    let walked = walked_more _ _ c.loop-item.item-iterator c.next.new.self c.loop-item.records.items
    c.in-Some.item c.in-Ok.record c.loop-item.invariant.walked c.in-Some.ensures.steps
    c.in-Ok.is in
    record { can = tt; finite = tt; walked = rw c.in_ok-push-in-Ok.ensures.items walked }

pub returns-clause-ok : goal.returns-clause-ok
returns-clause-ok g c = grind (arith, walked_all, reading_is, is_reading)

pub returns-in-Err-clause-stops : goal.returns-in-Err-clause-stops
returns-in-Err-clause-stops g c =
    let order = c.args.order in
    let bytes = c.args.bytes.now in
    let rs = c.loop-item.records.items in
    let why = c.in-Err.reason in
    let all = walked_to_fault order bytes c.loop-item.item-iterator c.next.new.self rs
    c.in-Some.item why c.loop-item.invariant.walked c.in-Some.ensures.steps c.in-Err.is in
    let stops : Stops order bytes rs why =
    subst (λ (read : List Record × Option Reason). IsReadingOf order bytes read) all
    (reading_is order bytes) in (
      rs,
      (let h : length rs ≡ c.len.result = search rules in h),
      stops,
      is_stop order bytes rs why stops,
    )

pub returns-in_err-push-in-Ok-clause-memory : goal.returns-in_err-push-in-Ok-clause-memory
returns-in_err-push-in-Ok-clause-memory g c = λ _.
    let rs = c.loop-item.records.items in
    walked_good _ _ c.next.new.self rs c.in-Ok.record
    (walked_more _ _ c.loop-item.item-iterator c.next.new.self rs c.in-Some.item c.in-Ok.record
    c.loop-item.invariant.walked c.in-Some.ensures.steps c.in-Ok.is)
