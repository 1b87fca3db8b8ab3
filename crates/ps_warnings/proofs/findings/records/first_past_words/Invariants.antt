use Rattle.std.proofs.Common.{◌≡◌, drop}
use Rattle.ps_resolve.specs.Searches.{first_of}
use Rattle.ps_warnings.specs.Searches.RecordFindings.{past_words}
use Rattle.ps_warnings.proofs.findings.records.first_past_words.Given as goal

-- the first of all is the first from here on
abbrev pub invariant-loop-reference : goal.invariant-loop-reference
invariant-loop-reference l = first_of (past_words l.code l.words) l.refs
    ≡ first_of (past_words l.code l.words) (drop l.reference l.refs)
