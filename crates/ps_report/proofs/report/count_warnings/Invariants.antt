use Rattle.std.proofs.Common.{◌≡◌, ◌≤◌, map, take}
use Rattle.ps_report.specs.Reported.{said, warning_count}
use Rattle.ps_report.proofs.report.count_warnings.Given as goal

-- so many of the findings so far are warnings
abbrev pub invariant-loop-finding : goal.invariant-loop-finding
invariant-loop-finding g l = record {
  count : l.warnings ≡ warning_count (map said (take l.finding-index l.findings));
  few : l.warnings ≤ l.finding-index;
}
