use Rattle.std.proofs.Common.{rules}
use Rattle.ps_reading.proofs.reading.slot_name.Goals as goal

pub returns-in-None : goal.returns-in-None
returns-in-None c = search rules
