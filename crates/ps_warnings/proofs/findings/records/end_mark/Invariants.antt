use Rattle.std.proofs.Common.{◌≡◌}
use Rattle.ps_linkinfo.specs.Numbered.{numbered_records}
use Rattle.ps_resolve.specs.Searches.{first_of}
use Rattle.ps_warnings.specs.Searches.RecordFindings.{mark_in}
use Rattle.ps_warnings.proofs.findings.records.end_mark.Given as goal

-- the first end mark of all is the first of those that are left
abbrev pub invariant-loop-record : goal.invariant-loop-record
invariant-loop-record l = first_of mark_in l.record-iterator
    ≡ first_of mark_in (numbered_records 0 l.records)
