use Rattle.std.proofs.Common.{◌≡◌}
use Rattle.ps_linkinfo.specs.Numbered.{numbered_records}
use Rattle.ps_resolve.specs.Searches.{first_of}
use Rattle.ps_warnings.specs.Searches.RecordFindings.{public_in}
use Rattle.ps_warnings.proofs.findings.records.first_public_of.Given as goal

-- the first of all is the first of those that are left
abbrev pub invariant-loop-rec : goal.invariant-loop-rec
invariant-loop-rec l = first_of (public_in l.code l.host) l.rec-iterator
    ≡ first_of (public_in l.code l.host) (numbered_records 0 l.records)
