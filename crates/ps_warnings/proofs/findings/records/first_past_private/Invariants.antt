use Rattle.std.proofs.Common.{◌≡◌}
use Rattle.ps_linkinfo.specs.Numbered.{numbered_records}
use Rattle.ps_warnings.specs.Searches.RecordFindings.{first_past}
use Rattle.ps_warnings.proofs.findings.records.first_past_private.Given as goal

-- the first of all is the first of those that are left
abbrev pub invariant-loop-rec : goal.invariant-loop-rec
invariant-loop-rec l = first_past l.code l.rec-iterator
    ≡ first_past l.code (numbered_records 0 l.records)
