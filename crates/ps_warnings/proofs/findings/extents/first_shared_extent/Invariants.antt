use Rattle.std.proofs.Common.{◌≡◌, drop}
use Rattle.std.specs.List.{find}
use Rattle.ps_warnings.specs.Searches.EntryFindings.{shares}
use Rattle.ps_warnings.proofs.findings.extents.first_shared_extent.Given as goal

-- the extent is looked for in what is left
abbrev pub invariant-loop-other : goal.invariant-loop-other
invariant-loop-other l = find (shares l.extent) l.extents
    ≡ find (shares l.extent) (drop l.other-index l.extents)
