use Rattle.std.proofs.Common.{◌∙◌, refl, sym}
use Rattle.ps_explained.specs.OverviewText.{named_entry}
use Rattle.ps_explained.proofs.passed_over.named_entry.Goals as goal

pub returns-in-Some : goal.returns-in-Some
unfolding named_entry
returns-in-Some c = rw (sym c.dict.ensures ∙ c.in-Some.is) c.first_named.ensures

pub returns-in-None : goal.returns-in-None
unfolding named_entry
returns-in-None c = rw (sym c.dict.ensures ∙ c.in-None.is) refl
