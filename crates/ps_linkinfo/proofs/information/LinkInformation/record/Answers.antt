use Rattle.std.proofs.Common.{sym, arith}
use Rattle.ps_linkinfo.proofs.AtIndex.{found, missing, passed}
use Rattle.ps_linkinfo.proofs.information.LinkInformation.record.Goals as goal

pub loop-other-preserved : goal.loop-other-preserved
loop-other-preserved c = grind (arith, passed)

pub returns-then-other-rec : goal.returns-then-other-rec
returns-then-other-rec c =
    sym (found c.args.self.now c.args.rec c.in-Some.other c.in-Some.entry _ _ c.loop-other.invariant
    c.in-Some.ensures.steps c.if-other-rec.true)

pub returns : goal.returns
returns c = grind (arith, missing)
