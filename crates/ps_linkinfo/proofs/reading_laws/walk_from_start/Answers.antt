use Rattle.std.proofs.Common.{arith}
use Rattle.ps_linkinfo.proofs.Walks.{items_first, records_first, fault_first, few, few_left}
use Rattle.ps_linkinfo.proofs.reading_laws.walk_from_start.Goals as goal

pub returns : goal.returns
returns c = grind (arith, items_first, records_first, fault_first, few, few_left)
