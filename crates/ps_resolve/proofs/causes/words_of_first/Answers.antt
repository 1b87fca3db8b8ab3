use Rattle.std.proofs.Common.{◌≤◌, ◌+◌, arith}
use Rattle.ps_reading.proofs.NumberedRecords.{one}
use Rattle.ps_resolve.proofs.WordsBefore.{counted, within}
use Rattle.ps_resolve.proofs.causes.words_of_first.Goals as goal

pub returns-in_err-words-clause-many : goal.returns-in_err-words-clause-many
returns-in_err-words-clause-many c =
    let r = c.in-Some.record in
    let step = one c.loop-rec.invariant c.in-Some.ensures.steps in
    let most = within c.args.records.now c.args.count c.loop-rec.words c.in-Some.rec r step.0 step.2
    c.if-rec-count.true in
    let much : 4294967296 ≤ c.loop-rec.words + c.from.result =
    omega (arith, c.in_err-words.ensures) in
    λ _. omega (arith, most, much, c.from.ensures, c.words_taken.ensures)

pub loop-rec-preserved-then-rec-count : goal.loop-rec-preserved-then-rec-count
loop-rec-preserved-then-rec-count c =
    let r = c.in-Some.record in
    let step = one c.loop-rec.invariant c.in-Some.ensures.steps in
    let more = counted c.args.records.now c.args.count c.loop-rec.words c.in-Some.rec r step.0
    step.2 c.if-rec-count.true in
    grind arith

pub loop-rec-preserved : goal.loop-rec-preserved
loop-rec-preserved c =
    let step = one c.loop-rec.invariant c.in-Some.ensures.steps in
    grind arith
