use Rattle.std.proofs.Common.{drop, map}
use Rattle.std.specs.List.{enumerate_from, flat_map}
use Rattle.ps_check_segments.specs.Paths.{paths_in}
use Rattle.ps_warnings.specs.Searches.AllFindings.{findings_of_unit, findings_of_units}
use Rattle.ps_warnings.specs.Found.{about_link}
use Rattle.ps_check_segments.specs.Seen.{seen}
use Rattle.ps_warnings.proofs.Found.{Owes}
use Rattle.ps_warnings.proofs.findings.links.look_at_units.Given as goal

-- what looks wrong in the segments that are left is still to be added
abbrev pub invariant-loop-index : goal.invariant-loop-index
invariant-loop-index g l =
    let paths = paths_in l.context.inputs.now in
    let list = map seen l.context.list.now in
    Owes (about_link l.fn.findings)
    (findings_of_units paths l.host.order l.host.file list)
    (flat_map (findings_of_unit paths l.host.order l.host.file list)
    (enumerate_from l.index (drop l.index list)))
    (about_link l.findings)
