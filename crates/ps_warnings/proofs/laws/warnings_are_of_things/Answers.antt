use Rattle.ps_warnings.proofs.HasWarned.{warned_said}
use Rattle.ps_warnings.proofs.laws.warnings_are_of_things.Goals as goal

pub returns : goal.returns
returns c = warned_said
