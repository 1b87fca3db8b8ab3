use Rattle.std.proofs.Common.{rules}
use Rattle.ps_reading.proofs.reading.files_fault.Goals as goal

pub returns : goal.returns
returns c = search rules
