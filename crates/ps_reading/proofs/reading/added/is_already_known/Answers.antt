use Rattle.std.proofs.Common.{rules}
use Rattle.ps_reading.proofs.reading.added.is_already_known.Goals as goal

pub returns-in-None : goal.returns-in-None
returns-in-None c = search rules
