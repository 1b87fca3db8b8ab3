use Rattle.std.proofs.Common.{arith}
use Rattle.ps_codefile.proofs.FirstFaults.{read_whole, refused_native}
use Rattle.ps_codefile.proofs.procedures.ProcedureDictionary.read_or_fault.Goals as goal

pub returns-then-lacks_outer_block-clause-reason : goal.returns-then-lacks_outer_block-clause-reason
returns-then-lacks_outer_block-clause-reason c = search arith

pub returns-then-lacks_outer_block-clause-fault : goal.returns-then-lacks_outer_block-clause-fault
returns-then-lacks_outer_block-clause-fault c = search arith

pub returns-in-Some-first_native-clause-reason : goal.returns-in-Some-first_native-clause-reason
returns-in-Some-first_native-clause-reason c = search (arith, refused_native)

pub returns-in-Some-first_native-clause-fault : goal.returns-in-Some-first_native-clause-fault
returns-in-Some-first_native-clause-fault c = search (arith, refused_native)

pub returns-clause-read : goal.returns-clause-read
returns-clause-read c = search (arith, read_whole)
