use Rattle.ps_command.proofs.Unread.{opened_unread}
use Rattle.ps_command.proofs.files.read.Goals as goal

pub returns-clause-why : goal.returns-clause-why
returns-clause-why g c = opened_unread (g.R.CodeFiles.world c.args.rt.now) c.args.path.now
    (g.R.Opened.Read.remaining c.in-Ok.file) c.read_to_end.result c.in-Ok.ensures.opened
    c.read_to_end.ensures.long c.read_to_end.ensures.ended
