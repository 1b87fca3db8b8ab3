use Rattle.std.proofs.Common.{◌≡◌, ◌∙◌, Bor, map, ap, refl, arith}
use Rattle.std.specs.Prelude.{max}
use Rattle.std.proofs.lemmas.List.{drop_all, drop_more}
use Rattle.ps_arguments.specs.CommandLine.{Text}
use Rattle.ps_command.specs.Statuses.{ended_status}
use Rattle.ps_command.proofs.ListsPrinted.{listed_more, took_twice}
use Rattle.ps_command.proofs.lists.print_files.Goals as goal

pub loop-path-preserved : goal.loop-path-preserved
loop-path-preserved g c =
    let inv = c.loop-path.invariant in
    let mine = ended_status c.loop-path.ended in
    let next = ended_status c.in_ok-next.next in
    let left = ap (map (λ (path : Bor Text). path.now))
    (drop_more c.args.paths.now c.loop-path.path-index _ c.loop-path-test.true) in
    let lists = listed_more _ _ _ _ c.loop-path.first _ _ mine next _ _
    c.in_ok-next.ensures.ok (rw left at inv.lists) in
    record {
      lists = rw c.worse-ended.ensures lists;
      silent = λ zero.
          let first : mine ≡ 0 = omega (arith, c.worse-ended.ensures, zero) in
          let other : next ≡ 0 = omega (arith, c.worse-ended.ensures, zero) in
          c.in_ok-next.ensures.silent other ∙ inv.silent first;
      took = took_twice _ _ _ inv.took c.in_ok-next.ensures.took;
    }

pub returns-clause-ok : goal.returns-clause-ok
returns-clause-ok g c =
    let none = ap (map (λ (path : Bor Text). path.now))
    (drop_all c.loop-path.path-index c.args.paths.now (omega (arith, c.loop-path-test.false))) in
    let lists = rw none at c.loop-path.invariant.lists in
    let zero : max (ended_status c.loop-path.ended) 0 ≡ ended_status c.loop-path.ended = omega arith in
    rw zero at (lists.rest 0 (g.O.Write.contents c.loop-path.out) (refl, refl))

pub returns-in_err-next-clause-took : goal.returns-in_err-next-clause-took
returns-in_err-next-clause-took g c =
    took_twice _ _ _ c.loop-path.invariant.took c.in_err-next.ensures.took
