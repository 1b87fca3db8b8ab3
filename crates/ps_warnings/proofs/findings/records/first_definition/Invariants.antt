use Rattle.std.proofs.Common.{◌≡◌}
use Rattle.std.specs.Option.{option_map}
use Rattle.ps_linkinfo.specs.Numbered.{numbered_records}
use Rattle.ps_warnings.specs.Searches.RecordFindings.{first_definition}
use Rattle.ps_warnings.proofs.findings.records.first_definition.Given as goal

-- the first of all is the first of those that are left
abbrev pub invariant-loop-rec : goal.invariant-loop-rec
invariant-loop-rec l = first_definition l.missed l.records (option_map (λ h. h.now) l.host)
    l.rec-iterator
    ≡ first_definition l.missed l.records (option_map (λ h. h.now) l.host)
    (numbered_records 0 l.records)
