use Rattle.std.proofs.Common.{◌≡◌, ◌+◌, ◌<◌, ◌≤◌, ℕ, false}
use Rattle.ps_codefile.specs.ProcedureFaults.{is_native}
use Rattle.ps_codefile.specs.Procedures.{procedures}
use Rattle.ps_codefile.proofs.procedures.ProcedureDictionary.first_native.Given as goal

-- no procedure before this one is native
abbrev pub invariant-loop-p : goal.invariant-loop-p
invariant-loop-p l = record {
  low : 1 ≤ l.p;
  end : l.p-end ≡ procedures l.self.code + 1;
  none : (q : ℕ) → 1 ≤ q → q < l.p → is_native l.self.order l.self.code q ≡ false;
}
