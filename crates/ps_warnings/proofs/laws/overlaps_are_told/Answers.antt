use Rattle.ps_warnings.proofs.Warned.{overlap_each, overlap_found}
use Rattle.ps_warnings.proofs.laws.overlaps_are_told.Goals as goal

pub returns : goal.returns
returns c = record { found = overlap_found; each = overlap_each }
