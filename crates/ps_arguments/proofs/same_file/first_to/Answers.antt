use Rattle.std.proofs.Common.{Bor, ap, arith, inl, inr, map}
use Rattle.std.proofs.lemmas.List.{drop_all, drop_more}
use Rattle.ps_arguments.specs.CommandLine.{Text}
use Rattle.ps_arguments.proofs.same_file.first_to.Goals as goal

pub loop-path-preserved : goal.loop-path-preserved
loop-path-preserved g c =
    let left = ap (map (λ (path : Bor Text). path.now))
    (drop_more c.args.paths.now c.loop-path.path-index _ c.loop-path-test.true) in
    let apart = rw c.if-lead_to_one_file.false at c.lead_to_one_file.ensures in
    record {
      none = λ others. c.loop-path.invariant.none (rw left (apart, others));
      some = λ others. c.loop-path.invariant.some (rw left (inr others));
    }

pub returns-then-lead_to_one_file-clause-some : goal.returns-then-lead_to_one_file-clause-some
returns-then-lead_to_one_file-clause-some g c =
    let left = ap (map (λ (path : Bor Text). path.now))
    (drop_more c.args.paths.now c.loop-path.path-index _ c.loop-path-test.true) in
    let same = rw c.if-lead_to_one_file.true at c.lead_to_one_file.ensures in
    c.loop-path.invariant.some (rw left (inl same))

pub returns-clause-none : goal.returns-clause-none
returns-clause-none g c none =
    let left = ap (map (λ (path : Bor Text). path.now))
    (drop_all c.loop-path.path-index c.args.paths.now (omega (arith, c.loop-path-test.false))) in
    c.loop-path.invariant.none (rw left tt)
