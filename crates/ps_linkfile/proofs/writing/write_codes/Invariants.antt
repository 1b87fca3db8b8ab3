use Rattle.std.proofs.Common.{ℕ, List}
use Rattle.ps_linkfile.proofs.Codes.{CodesSoFar}
use Rattle.ps_linkfile.proofs.Rising.{BlocksSoFar}
use Rattle.ps_linkfile.proofs.writing.write_codes.Given as goal

abbrev pub invariant-loop-k : goal.invariant-loop-k
invariant-loop-k g l = record {
  codes : (prefix : List ℕ) × CodesSoFar l.plan.order l.plan.sources l.plan.edits l.k
      (g.W.Write.contents l.fn.out) (g.W.Write.contents l.out) prefix;
  counts : (n : ℕ) × BlocksSoFar l.plan.sources l.k n
      (g.T.WriteCounter.counts l.fn.counter l.fn.out) (g.T.WriteCounter.counts l.counter l.out);
}
