use Rattle.std.proofs.Common.{rules}
use Rattle.ps_words.proofs.fault.FaultDisplay.fmt.Goals as goal

pub returns-clause-writes : goal.returns-clause-writes
returns-clause-writes c = search rules
