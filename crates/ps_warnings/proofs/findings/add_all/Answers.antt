use Rattle.std.proofs.lemmas.Result.{on_ok_weaker}
use Rattle.ps_warnings.specs.Searches.AllFindings.{all_findings}
use Rattle.ps_warnings.proofs.Found.{adds_both, none_then}
use Rattle.ps_warnings.proofs.findings.add_all.Goals as goal

pub returns : goal.returns
unfolding all_findings
returns g c = on_ok_weaker c.look_at-2.result
    (λ more. adds_both c.in_ok-add_of_files.ensures (none_then c.in_ok-look_at.ensures more))
    c.look_at-2.ensures
