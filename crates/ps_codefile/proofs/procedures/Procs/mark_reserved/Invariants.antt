use Rattle.std.proofs.Common.{◌≡◌, ◌+◌, ◌-◌, ◌≤◌, ℕ, length, get_or, if◌then◌else◌}
use Rattle.std.specs.List.{list_any, range_with_len}
use Rattle.ps_codefile.specs.Procedures.{is_in_table, is_reserved, procedures, table_of}
use Rattle.ps_codefile.specs.Places.{passes}
use Rattle.ps_codefile.proofs.procedures.Procs.mark_reserved.Given as goal

-- with the places of the tables that are left, all are marked
abbrev pub invariant-loop-p : goal.invariant-loop-p
invariant-loop-p g l = record {
  low : 1 ≤ l.p-iterator.start;
  end : l.p-iterator.end ≡ procedures l.fn.self.code + 1;
  len : length l.marks ≡ length l.fn.marks;
  all : (q : ℕ) (d : g.row.T.Denot)
      → (if list_any (λ p. passes (is_in_table q) (table_of l.fn.self.order l.fn.self.code p))
      (range_with_len l.p-iterator.start (l.p-iterator.end - l.p-iterator.start)) then l.mark
      else get_or l.marks q d) ≡ (if is_reserved l.fn.self.order l.fn.self.code q then l.mark
      else get_or l.fn.marks q d);
}
