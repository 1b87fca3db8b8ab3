use Rattle.ps_warnings.proofs.WarnedPublics.{mark_each, mark_found}
use Rattle.ps_warnings.proofs.laws.past_publics_are_told.Goals as goal

pub returns : goal.returns
returns c = record { found = mark_found; each = mark_each }
