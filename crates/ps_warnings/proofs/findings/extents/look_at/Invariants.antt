use Rattle.std.proofs.Common.{drop}
use Rattle.std.specs.List.{flat_map}
use Rattle.ps_warnings.specs.Searches.FileFindings.{overlap_finding}
use Rattle.ps_warnings.specs.Found.{about_link}
use Rattle.ps_warnings.proofs.Found.{Owes}
use Rattle.ps_warnings.proofs.findings.extents.look_at.Given as goal

-- the overlaps of the extents that are left are still to be added
abbrev pub invariant-loop-extent : goal.invariant-loop-extent
invariant-loop-extent g l =
    Owes (about_link l.fn.findings)
    (flat_map (overlap_finding l.path l.dict.order l.dict.file l.extents) l.extents)
    (flat_map (overlap_finding l.path l.dict.order l.dict.file l.extents)
    (drop l.extent-index l.extents))
    (about_link l.findings)
