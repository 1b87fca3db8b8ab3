use Rattle.std.proofs.Common.{◌≡◌, ◌+◌, ◌<◌, ◌≤◌, ℕ, false}
use Rattle.ps_codefile.specs.Places.{passes}
use Rattle.ps_codefile.specs.Procedures.{is_in_table, procedures, table_of}
use Rattle.ps_codefile.proofs.procedures.ProcedureDictionary.table_with.Given as goal

-- no table of the procedures before this one has the place
abbrev pub invariant-loop-p : goal.invariant-loop-p
invariant-loop-p l = record {
  low : 1 ≤ l.p;
  end : l.p-end ≡ procedures l.self.code + 1;
  none : (q : ℕ) → 1 ≤ q → q < l.p
      → passes (is_in_table l.place) (table_of l.self.order l.self.code q) ≡ false;
}
