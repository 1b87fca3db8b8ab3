use Rattle.std.proofs.Common.{◌≡◌, drop}
use Rattle.std.specs.Prelude.{find}
use Rattle.ps_warnings.specs.Notes.{is_clear}
use Rattle.ps_warnings.proofs.findings.operands.first_clear.Given as goal

-- the first of all is the first from here on
abbrev pub invariant-loop-reference : goal.invariant-loop-reference
invariant-loop-reference l = find (is_clear l.code) l.refs
    ≡ find (is_clear l.code) (drop l.reference l.refs)
