use Rattle.std.proofs.lemmas.Result.{on_ok_weaker}
use Rattle.ps_warnings.specs.Searches.FileFindings.{findings_of_entries}
use Rattle.ps_warnings.proofs.Found.{adds_both, none_then}
use Rattle.ps_warnings.proofs.findings.files.look_at_dictionary.Goals as goal

pub returns : goal.returns
unfolding findings_of_entries
returns g c =
    let calm = none_then c.in_ok-add_unsure.ensures c.in_ok-add_unsure-2.ensures in
    let before = none_then calm c.in_ok-look_at.ensures in
    let overlaps = rw (c.path-path.ensures, c.extents_of-extents.ensures)
    at c.look_at-2.ensures in
    on_ok_weaker c.look_at-2.result (λ more. adds_both before more) overlaps
