use Rattle.ps_warnings.proofs.Warned.{past_each, past_found}
use Rattle.ps_warnings.proofs.laws.past_privates_are_told.Goals as goal

pub returns : goal.returns
returns c = record { found = past_found; each = past_each }
