-- The commands that are left make it the whole one.
use Rattle.std.proofs.Common.{◌≡◌, drop, fold}
use Rattle.clap.specs.Words.{app_of}
use Rattle.ps_arguments.specs.CommandLine.{with_form}
use Rattle.ps_arguments.proofs.command_line.with_commands.Given as goal

abbrev pub invariant-loop-form : goal.invariant-loop-form
invariant-loop-form l = fold with_form (app_of l.app) (drop l.form-index l.forms)
    ≡ fold with_form (app_of l.initial.app) l.forms
