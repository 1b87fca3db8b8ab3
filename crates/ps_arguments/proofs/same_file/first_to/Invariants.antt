-- If `out` leads to the file of none of the paths that are left, it leads to that of none of all; and if
-- it leads to that of one of them, it leads to that of one of all.
use Rattle.std.proofs.Common.{drop, map}
use Rattle.ps_arguments.specs.Requests.{LeadsToNone, LeadsToSome}
use Rattle.ps_arguments.proofs.same_file.first_to.Given as goal

abbrev pub invariant-loop-path : goal.invariant-loop-path
invariant-loop-path g l = record {
  none : LeadsToNone (g.F.SameFile.one_file l.files) l.out
      (map (λ path. path.now) (drop l.path-index l.paths))
      → LeadsToNone (g.F.SameFile.one_file l.files) l.out (map (λ path. path.now) l.paths);
  some : LeadsToSome (g.F.SameFile.one_file l.files) l.out
      (map (λ path. path.now) (drop l.path-index l.paths))
      → LeadsToSome (g.F.SameFile.one_file l.files) l.out (map (λ path. path.now) l.paths);
}
