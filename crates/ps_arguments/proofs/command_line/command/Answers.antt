use Rattle.ps_arguments.specs.CommandLine.{bare_app}
use Rattle.ps_arguments.proofs.command_line.command.Goals as goal

pub returns : goal.returns
returns c = c.with_commands.ensures bare_app c.bare_command.ensures
