use Rattle.std.proofs.Common.{rules}
use Rattle.ps_linkfile.proofs.error.LinkErrorFromStop.from.Goals as goal

pub returns-in-Refused : goal.returns-in-Refused
returns-in-Refused c = search rules
