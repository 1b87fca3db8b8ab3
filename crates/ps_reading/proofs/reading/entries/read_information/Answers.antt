use Rattle.std.proofs.Common.{rules}
use Rattle.ps_reading.proofs.reading.entries.read_information.Goals as goal

pub returns-in-Err-clause-fault : goal.returns-in-Err-clause-fault
returns-in-Err-clause-fault c = search rules
