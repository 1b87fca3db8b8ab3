use Rattle.ps_warnings.proofs.Found.{pushed}
use Rattle.ps_warnings.proofs.findings.Findings.push.Goals as goal

pub returns : goal.returns
returns g c = rw c.in_ok-push.ensures.items (pushed c.args.self.now.list.items c.args.place c.args.finding)
