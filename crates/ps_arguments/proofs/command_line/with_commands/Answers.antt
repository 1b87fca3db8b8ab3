use Rattle.std.proofs.Common.{◌∙◌, ◌+◌, ap, drop, fold, sym}
use Rattle.std.proofs.lemmas.List.{at_drop_all, at_drop_more}
use Rattle.clap.specs.Words.{App, app_of}
use Rattle.ps_arguments.specs.CommandLine.{with_form}
use Rattle.ps_arguments.proofs.command_line.with_commands.Goals as goal

pub loop-form-preserved : goal.loop-form-preserved
loop-form-preserved c =
    let i = c.loop-form.form-index in
    let forms = c.args.forms.now in
    ap (λ (app : App). fold with_form app (drop (i + 1) forms)) c.in_ok-app.ensures
    ∙ sym (at_drop_more (fold with_form (app_of c.loop-form.app)) forms i _ c.loop-form-test.true)
    ∙ c.loop-form.invariant

pub returns : goal.returns
returns c whole is =
    let forms = c.args.forms.now in
    sym (at_drop_all (fold with_form (app_of c.loop-form.app)) forms c.loop-form.form-index
    c.loop-form-test.false) ∙ c.loop-form.invariant
    ∙ ap (λ (app : App). fold with_form app forms) is
