use Rattle.std.proofs.Common.{arith, ◌∙◌, sym, append-nil}
use Rattle.ps_resolve.proofs.EarlierNames.{more_numbers, passed}
use Rattle.ps_reading.proofs.NumberedRecords.{one, none}
use Rattle.ps_resolve.proofs.namesakes.numbers_of.Goals as goal

pub loop-record-preserved-in-Continue-branch-2 : goal.loop-record-preserved-in-Continue-branch-2
loop-record-preserved-in-Continue-branch-2 g c =
    let step = one c.loop-record.invariant c.in-Some.ensures.steps in
    grind (arith, more_numbers)

pub loop-record-preserved : goal.loop-record-preserved
loop-record-preserved g c =
    let step = one c.loop-record.invariant c.in-Some.ensures.steps in
    grind (arith, passed)

pub returns-clause-numbers : goal.returns-clause-numbers
returns-clause-numbers g c =
    let xs = c.loop-record.numbers.items in
    sym (append-nil xs) ∙
    (none c.loop-record.invariant
    c.in-None.ensures.steps.0).1
