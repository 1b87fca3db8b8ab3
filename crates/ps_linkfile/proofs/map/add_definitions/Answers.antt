use Rattle.std.proofs.Common.{arith}
use Rattle.ps_linkfile.proofs.Views.{got}
use Rattle.ps_writing.proofs.Numbered.{numbered_left}
use Rattle.ps_writing.proofs.Written.{all_stopped, some_more}
use Rattle.ps_linkfile.proofs.map.add_definitions.Goals as goal

pub loop-i-preserved : goal.loop-i-preserved
loop-i-preserved g c = grind (arith, some_more, numbered_left, got)

pub returns-then-has_failed : goal.returns-then-has_failed
returns-then-has_failed g c = all_stopped c.loop-i.invariant
    (c.has_failed.ensures c.if-has_failed.true _)
