use Rattle.std.proofs.Common.{◌∙◌, ap, map, refl, subst}
use Rattle.std.proofs.lemmas.Result.{IfErr-weaker, IfOk-weaker}
use Rattle.clap.specs.Words.{App, FailsBy, fault_of, is_simple, is_simple_and_free, subcommand_of, takes}
use Rattle.ps_arguments.proofs.request.matches.Goals as goal

pub returns-clause-found : goal.returns-clause-found
returns-clause-found c =
    let words = map (λ s. s.now) c.args.args.now in
    IfOk-weaker c.try_get_matches_from.result _ _
    (λ m has. (has (ap is_simple c.in_ok-command.ensures ∙ refl)).1
    ∙ ap (λ (a : App). subcommand_of a words) c.in_ok-command.ensures)
    c.try_get_matches_from.ensures.matches

pub returns-clause-memory : goal.returns-clause-memory
returns-clause-memory c taken =
    IfErr-weaker c.try_get_matches_from.result _ _
    (λ e h. h (ap (λ (a : App). takes a (map (λ s. s.now) c.args.args.now))
    c.in_ok-command.ensures ∙ taken)) c.try_get_matches_from.ensures.passes

pub returns-clause-faults : goal.returns-clause-faults
returns-clause-faults c =
    let words = map (λ s. s.now) c.args.args.now in
    subst (λ (a : App). FailsBy (fault_of a words) c.try_get_matches_from.result)
    c.in_ok-command.ensures
    (c.try_get_matches_from.ensures.kinds (ap is_simple_and_free c.in_ok-command.ensures ∙ refl))
