-- The arguments that are left make it the whole command, and none is its commands' too.
use Rattle.std.proofs.Common.{◌≡◌, drop, false, fold}
use Rattle.clap.specs.Words.{app_of}
use Rattle.clap.specs.declared.Command.TheViews.{out-Command}
use Rattle.ps_arguments.specs.CommandLine.{app_in, with_argument}
use Rattle.ps_arguments.proofs.command_line.command_of.Given as goal

abbrev pub invariant-loop-argument : goal.invariant-loop-argument
invariant-loop-argument l = (fold with_argument (app_of l.command)
    (drop l.argument-index l.form.arguments.now) ≡ app_in l.form)
    × ((out-Command l.command).has_globals ≡ false)
