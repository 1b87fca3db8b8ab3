use Rattle.ps_warnings.proofs.WarnedSlots.{respelled_each, respelled_found}
use Rattle.ps_warnings.proofs.laws.near_names_are_told.Goals as goal

pub returns : goal.returns
returns c = λ a b. (respelled_found a b, respelled_each a b)
