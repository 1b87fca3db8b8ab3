use Rattle.ps_writing.proofs.Vocabulary.{length, ◌-◌, ◌≤◌, take, Appends}
use Rattle.ps_writing.proofs.Rising.{Progress}
use Rattle.ps_writing.proofs.writing.write_all.Given as goal

-- the bytes so far were appended
abbrev pub invariant-loop-at : goal.invariant-loop-at
invariant-loop-at g l = record {
  within : l.at ≤ length l.bytes;
  written : Appends (g.W.Write.contents l.fn.out) (g.W.Write.contents l.out) (take l.at l.bytes);
  counts : Progress (g.T.WriteCounter.counts l.fn.counter l.fn.out)
      (g.T.WriteCounter.counts l.counter l.out) (length l.bytes) l.at;
}

abbrev pub decreases-loop-at : goal.decreases-loop-at
decreases-loop-at g l = length l.bytes - l.at
