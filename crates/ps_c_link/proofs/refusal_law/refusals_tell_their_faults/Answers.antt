use Rattle.ps_c_link.proofs.Refusals.{told_back}
use Rattle.ps_c_link.proofs.refusal_law.refusals_tell_their_faults.Goals as goal

pub returns-clause-told : goal.returns-clause-told
returns-clause-told c = told_back
