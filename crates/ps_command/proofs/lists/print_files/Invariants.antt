use Rattle.std.proofs.Common.{◌≡◌, drop, map}
use Rattle.ps_command.specs.Failures.{TakesMore}
use Rattle.ps_command.specs.Statuses.{ended_status}
use Rattle.ps_command.proofs.ListsPrinted.{ListsLeft}
use Rattle.ps_command.proofs.lists.print_files.Given as goal

-- the lists of the files so far are printed, and those of the others are still to be printed
abbrev pub invariant-loop-path : goal.invariant-loop-path
invariant-loop-path g l = record {
  lists : ListsLeft (g.R.CodeFiles.world l.rt) l.how
      (map (λ path. path.now) l.paths) (g.O.Write.contents l.fn.out)
      l.first (map (λ path. path.now) (drop l.path-index l.paths)) (ended_status l.ended)
      (g.O.Write.contents l.out);
  silent : ended_status l.ended ≡ 0 → l.err ≡ l.fn.err;
  took : TakesMore (g.O.Write.contents l.fn.out) (g.O.Write.contents l.out);
}
