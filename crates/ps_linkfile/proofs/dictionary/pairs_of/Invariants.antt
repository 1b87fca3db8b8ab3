use Rattle.std.proofs.Common.{ℕ}
use Rattle.ps_linkfile.proofs.Pairs.{PairsSoFar}
use Rattle.ps_linkfile.proofs.dictionary.pairs_of.Given as goal

-- the pairs of the sources so far are stored
abbrev pub invariant-loop-k : goal.invariant-loop-k
invariant-loop-k l = (block : ℕ) × (from : ℕ)
    × PairsSoFar l.order l.sources l.k l.pairs block from
