use Rattle.ps_warnings.proofs.Warned.{end_mark_read, end_mark_there}
use Rattle.ps_warnings.proofs.laws.end_marks_are_read.Goals as goal

pub returns : goal.returns
returns c = λ rs next. (end_mark_read rs next, end_mark_there rs next)
