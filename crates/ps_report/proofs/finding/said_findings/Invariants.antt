use Rattle.std.proofs.Common.{◌≡◌, map, take}
use Rattle.ps_report.specs.Reported.{ArePlaced, AreWorded, findings_in, said}
use Rattle.ps_report.proofs.finding.said_findings.Given as goal

-- the findings so far, with their words, are those of the findings so far
abbrev pub invariant-loop-at : goal.invariant-loop-at
invariant-loop-at g l = record {
  findings : findings_in (map said l.found.items) ≡ take l.at-index l.findings;
  places : ArePlaced (map said l.found.items);
  worded : AreWorded (map said l.found.items);
}
