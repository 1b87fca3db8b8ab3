use Rattle.ps_command.proofs.Failed.{unreadable}
use Rattle.ps_command.proofs.files.read_at.Goals as goal

pub returns-in-Err-clause-unread : goal.returns-in-Err-clause-unread
returns-in-Err-clause-unread g c = rw c.at.ensures (unreadable (g.R.CodeFiles.world c.args.rt.now)
    c.args.path c.in-Err.fault c.in-Err.ensures.why)
