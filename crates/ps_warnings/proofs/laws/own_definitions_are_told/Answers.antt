use Rattle.ps_warnings.proofs.WarnedPublics.{own_each, own_found}
use Rattle.ps_warnings.proofs.laws.own_definitions_are_told.Goals as goal

pub returns : goal.returns
returns c = record { found = own_found; each = own_each }
