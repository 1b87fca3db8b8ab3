use Rattle.std.proofs.Common.{map}
use Rattle.std.proofs.lemmas.Result.{IfOk-weaker}
use Rattle.ps_resolve.specs.Sources.{contents}
use Rattle.ps_report.specs.Reported.{said, warning_count}
use Rattle.ps_report.proofs.Verdicts.{linked_or_not, refused_or_not, warned_or_refused}
use Rattle.ps_report.proofs.report.check.Goals as goal

pub returns-clause-links : goal.returns-clause-links
returns-clause-links g c = IfOk-weaker c.check_reading.result _ _
    (λ r is. linked_or_not c.args.files.now.host.now (contents c.args.files.now.libs.now)
    (warning_count (map said r.findings.items)) r.verdict is.right) c.check_reading.ensures

pub returns-clause-refused : goal.returns-clause-refused
returns-clause-refused g c = IfOk-weaker c.check_reading.result _ _
    (λ r is. refused_or_not c.args.files.now.host.now (contents c.args.files.now.libs.now)
    (warning_count (map said r.findings.items)) r.verdict is.right) c.check_reading.ensures

pub returns-clause-warned : goal.returns-clause-warned
returns-clause-warned g c = IfOk-weaker c.check_reading.result _ _
    (λ r is. warned_or_refused c.args.files.now.host.now (contents c.args.files.now.libs.now)
    (warning_count (map said r.findings.items)) r.verdict is.right is.warnings)
    c.check_reading.ensures
