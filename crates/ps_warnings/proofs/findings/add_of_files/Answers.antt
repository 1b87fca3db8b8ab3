use Rattle.std.proofs.lemmas.Result.{on_ok_weaker}
use Rattle.ps_warnings.specs.Searches.AllFindings.{findings_of_files}
use Rattle.ps_warnings.proofs.Found.{adds_both}
use Rattle.ps_warnings.proofs.findings.add_of_files.Goals as goal

pub returns : goal.returns
unfolding findings_of_files
returns g c = on_ok_weaker c.add_of_libraries.result
    (λ more. adds_both c.in_ok-look_at.ensures more) c.add_of_libraries.ensures
