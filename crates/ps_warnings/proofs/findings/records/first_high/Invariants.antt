use Rattle.std.proofs.Common.{◌≡◌}
use Rattle.ps_linkinfo.specs.Numbered.{numbered_records}
use Rattle.ps_warnings.specs.Searches.RecordFindings.{first_high}
use Rattle.ps_warnings.proofs.findings.records.first_high.Given as goal

-- the first of all is the first of those that are left
abbrev pub invariant-loop-rec : goal.invariant-loop-rec
invariant-loop-rec l = first_high l.next l.rec-iterator
    ≡ first_high l.next (numbered_records 0 l.records)
