use Rattle.std.proofs.Common.{◌∙◌, refl, sym}
use Rattle.ps_texts.proofs.Unopened.{refused_as_shown}
use Rattle.ps_texts.proofs.texts.had_of.Goals as goal

pub returns-in-Err-clause-unmade : goal.returns-in-Err-clause-unmade
returns-in-Err-clause-unmade g c = rw c.unopened.ensures
    (refused_as_shown c.args.files.now.host.now c.in-Err.reason (sym c.open.ensures ∙ c.in-Err.is), refl)
