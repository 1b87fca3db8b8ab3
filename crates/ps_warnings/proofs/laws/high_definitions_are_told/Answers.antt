use Rattle.ps_warnings.proofs.Warned.{high_each, high_found}
use Rattle.ps_warnings.proofs.laws.high_definitions_are_told.Goals as goal

pub returns : goal.returns
returns c = record { found = high_found; each = high_each }
