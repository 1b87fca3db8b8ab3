use Rattle.std.proofs.Common.{rules}
use Rattle.ps_words.proofs.fault.Reason.number.Goals as goal

pub returns-in-DoubledUnit : goal.returns-in-DoubledUnit
returns-in-DoubledUnit c = search rules
