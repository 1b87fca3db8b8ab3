use Rattle.std.proofs.Common.{◌∙◌, ◌+◌, ◌||◌, ap, ap₂, drop, fold, sym}
use Rattle.std.proofs.lemmas.List.{at_drop_all, at_drop_more}
use Rattle.clap.specs.Words.{App, app_of, with_rule}
use Rattle.ps_arguments.specs.CommandLine.{with_argument}
use Rattle.ps_arguments.proofs.command_line.command_of.Goals as goal

pub loop-argument-preserved : goal.loop-argument-preserved
loop-argument-preserved c =
    let i = c.loop-argument.argument-index in
    let arguments = c.args.form.now.arguments.now in
    let app = app_of c.loop-argument.command in
    let adds = c.in_ok-command.ensures in
    let argument = c.argument_of.ensures in
    let before = c.loop-argument.invariant in (
      ap (λ (app : App). fold with_argument app (drop (i + 1) arguments))
          (adds.shape argument.1 ∙ ap (with_rule app) argument.0)
          ∙ sym (at_drop_more (fold with_argument app) arguments i _ c.loop-argument-test.true)
          ∙ before.0,
      adds.globals ∙ ap₂ (λ x y. x || y) before.1 argument.1,
    )

pub returns : goal.returns
returns c = (
  sym (at_drop_all (fold with_argument (app_of c.loop-argument.command))
      c.args.form.now.arguments.now c.loop-argument.argument-index c.loop-argument-test.false)
      ∙ c.loop-argument.invariant.0,
  c.loop-argument.invariant.1,
)
