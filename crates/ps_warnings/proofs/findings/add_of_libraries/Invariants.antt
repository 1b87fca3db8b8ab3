use Rattle.std.proofs.Common.{◌+◌, drop, map}
use Rattle.std.specs.List.{enumerate_from, flat_map}
use Rattle.std.specs.Option.{option_map}
use Rattle.ps_resolve.specs.Sources.{contents}
use Rattle.ps_warnings.specs.Searches.AllFindings.{findings_of_file}
use Rattle.ps_warnings.specs.Found.{about_link}
use Rattle.ps_check_segments.specs.Paths.{host_order, paths_in}
use Rattle.ps_check_segments.specs.Seen.{seen}
use Rattle.ps_warnings.proofs.Found.{Owes}
use Rattle.ps_warnings.proofs.findings.add_of_libraries.Given as goal

-- what looks wrong in the libraries that are left is still to be added
abbrev pub invariant-loop-library : goal.invariant-loop-library
invariant-loop-library g l =
    let of_file = findings_of_file (paths_in l.context.inputs.now) (option_map
    (λ h. h.now) l.context.host)
    (map seen l.context.list.now) (host_order l.context.inputs.now.host.now) in
    let libs = contents l.context.inputs.now.libs.now in
    Owes (about_link l.fn.findings)
    (flat_map of_file (enumerate_from 1 libs))
    (flat_map of_file (enumerate_from (l.library + 1) (drop l.library libs)))
    (about_link l.findings)
