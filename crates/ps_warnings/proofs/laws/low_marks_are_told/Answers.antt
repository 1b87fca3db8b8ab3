use Rattle.ps_warnings.proofs.Warned.{low_each, low_found}
use Rattle.ps_warnings.proofs.laws.low_marks_are_told.Goals as goal

pub returns : goal.returns
returns c = record { found = low_found; each = low_each }
