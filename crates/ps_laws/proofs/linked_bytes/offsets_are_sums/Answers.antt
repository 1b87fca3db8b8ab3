use Rattle.ps_laws.proofs.SummedOffsets.{offsets}
use Rattle.ps_laws.proofs.linked_bytes.offsets_are_sums.Goals as goal

pub returns : goal.returns
returns c = λ host libs. offsets host libs
