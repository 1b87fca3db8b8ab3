use Rattle.std.proofs.Common.{◌≡◌, ◌+◌, ◌<◌, ◌≤◌, ℕ, false}
use Rattle.ps_codefile.specs.ProcedureFaults.{is_outside}
use Rattle.ps_codefile.specs.Procedures.{procedures}
use Rattle.ps_codefile.proofs.procedures.first_outside.Given as goal

-- no table of the procedures before this one is outside
abbrev pub invariant-loop-p : goal.invariant-loop-p
invariant-loop-p l = record {
  low : 1 ≤ l.p;
  end : l.p-end ≡ procedures l.code + 1;
  none : (q : ℕ) → 1 ≤ q → q < l.p → is_outside l.order l.code q ≡ false;
}
