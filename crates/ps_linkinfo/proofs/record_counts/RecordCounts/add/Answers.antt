use Rattle.std.proofs.Common.{arith}
use Rattle.std.proofs.lemmas.Grind.{common_steps}
use Rattle.ps_linkinfo.proofs.Tallies.{next_more}
use Rattle.ps_linkinfo.proofs.record_counts.RecordCounts.add.Goals as goal

pub returns-in-UnitRef : goal.returns-in-UnitRef
returns-in-UnitRef c = grind (arith, next_more, common_steps)

pub returns-in-PublRef : goal.returns-in-PublRef
returns-in-PublRef c = grind (arith, next_more, common_steps)

pub returns-in-PrivRef : goal.returns-in-PrivRef
returns-in-PrivRef c = grind (arith, next_more, common_steps)

pub returns-in-Eof : goal.returns-in-Eof
returns-in-Eof c = grind (arith, next_more, common_steps)

pub returns-in-PublDef : goal.returns-in-PublDef
returns-in-PublDef c = grind (arith, next_more, common_steps)
