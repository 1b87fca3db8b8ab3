use Rattle.ps_linkfile.proofs.Vocabulary.{min, range_with_len, Appends, blocks, patched_or_zero, NoneFailed, Rises, ◌≡◌, ◌≤◌, ◌*◌, ◌-◌, ℕ, length, map}
use Rattle.ps_linkfile.proofs.writing.write_code.Given as goal

-- so many blocks were appended, and the patcher is after them
abbrev pub invariant-loop-patcher : goal.invariant-loop-patcher
invariant-loop-patcher g l = (at : ℕ) × record {
  within : at ≤ blocks (length l.fn.code);
  is : l.patcher ≡ record {
    order = l.fn.order;
    code = l.fn.code;
    edits = l.fn.edits;
    position = min (512 * at) (length l.fn.code);
  };
  written : Appends (g.W.Write.contents l.fn.out) (g.W.Write.contents l.out)
      (map (patched_or_zero l.fn.order l.fn.code l.fn.edits) (range_with_len 0 (512 * at)));
  rises : Rises (g.T.WriteCounter.counts l.fn.counter l.fn.out)
      (g.T.WriteCounter.counts l.counter l.out) (512 * at) at;
  none : NoneFailed (g.T.WriteCounter.counts l.fn.counter l.fn.out)
      (g.T.WriteCounter.counts l.counter l.out);
}

abbrev pub decreases-loop-patcher : goal.decreases-loop-patcher
decreases-loop-patcher g l = length l.fn.code - l.patcher.position
