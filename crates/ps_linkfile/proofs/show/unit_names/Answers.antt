use Rattle.std.proofs.Common.{rules, refl, arith}
use Rattle.ps_linkfile.specs.ShowText.{unit_names}
use Rattle.ps_linkfile.proofs.Shows.{names_more, few_more}
use Rattle.ps_linkfile.proofs.show.unit_names.Goals as goal

pub loop-slot-init : goal.loop-slot-init
unfolding unit_names
loop-slot-init c = rw c.new-names.ensures (record { all = refl; few = omega arith })

pub loop-slot-preserved : goal.loop-slot-preserved
loop-slot-preserved c = search (rules, names_more, few_more)
