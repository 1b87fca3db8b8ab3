use Rattle.std.proofs.Common.{◌≡◌, drop, map}
use Rattle.std.specs.List.{find}
use Rattle.ps_warnings.specs.Searches.LinkFindings.{is_near_unit}
use Rattle.ps_check_segments.specs.Seen.{seen}
use Rattle.ps_warnings.proofs.findings.links.other_spelling.Given as goal

-- the unit is looked for in what is left
abbrev pub invariant-loop-other : goal.invariant-loop-other
invariant-loop-other l = find (is_near_unit l.segment.name) (map seen l.earlier)
    ≡ find (is_near_unit l.segment.name) (map seen (drop l.other-index l.earlier))
