use Rattle.std.proofs.Common.{◌≡◌, drop, map}
use Rattle.std.specs.List.{list_any}
use Rattle.ps_report.specs.LastLine.{asks_for}
use Rattle.ps_report.specs.Reported.{said}
use Rattle.ps_report.proofs.last_line.is_asked_for.Given as goal

-- none so far asks for the file
abbrev pub invariant-loop-finding : goal.invariant-loop-finding
invariant-loop-finding g l = list_any (λ f. asks_for l.path f.at) (map said l.findings)
    ≡ list_any (λ f. asks_for l.path f.at) (map said (drop l.finding-index l.findings))
