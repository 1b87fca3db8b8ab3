use Rattle.std.proofs.Common.{◌≡◌, drop, map}
use Rattle.std.specs.List.{list_any}
use Rattle.ps_report.specs.LastLine.{counts_otherwise}
use Rattle.ps_report.specs.Reported.{said}
use Rattle.ps_report.proofs.last_line.is_counted_otherwise.Given as goal

-- none so far says so of the file
abbrev pub invariant-loop-finding : goal.invariant-loop-finding
invariant-loop-finding g l = list_any (λ f. counts_otherwise l.path f.at) (map said l.findings)
    ≡ list_any (λ f. counts_otherwise l.path f.at) (map said (drop l.finding-index l.findings))
