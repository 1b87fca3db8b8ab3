use Rattle.std.proofs.Common.{◌≡◌, ◌++◌, drop, map, string_bytes}
use Rattle.ps_resolve.specs.Sources.{contents}
use Rattle.ps_check_segments.specs.Paths.{paths_in}
use Rattle.ps_report.specs.LastLine.{asked_paths}
use Rattle.ps_report.specs.Reported.{said}
use Rattle.ps_report.proofs.last_line.paths_asked_for.Given as goal

-- the paths so far are added, and those of the others are still to be
abbrev pub invariant-loop-path : goal.invariant-loop-path
invariant-loop-path g l = string_bytes l.text
    ++ asked_paths (map said l.findings) (contents (drop l.path-index l.files.paths.now))
    ≡ asked_paths (map said l.findings) (paths_in l.files)
