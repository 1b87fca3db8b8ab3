use Rattle.std.proofs.Common.{◌≡◌, ℕ, length, get_or, if◌then◌else◌}
use Rattle.ps_codefile.specs.Places.{is_between}
use Rattle.ps_codefile.proofs.procedures.mark_all.Given as goal

-- the elements so far are marked
abbrev pub invariant-loop-place : goal.invariant-loop-place
invariant-loop-place g l = record {
  len : length l.marks ≡ length l.fn.marks;
  marked : (q : ℕ) (d : g.row.T.Denot)
      → get_or l.marks q d ≡ (if is_between l.start l.place q then l.mark
      else get_or l.fn.marks q d);
}
