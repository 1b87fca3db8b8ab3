use Rattle.std.proofs.Common.{◌≡◌, ℕ, ◌<◌, ◌≤◌, ◌+◌, drop, get_or}
use Rattle.std.specs.Prelude.{find}
use Rattle.ps_words.specs.Edits.{covers}
use Rattle.ps_patch.specs.Patched.{patched_from}
use Rattle.ps_patch.proofs.patcher.store_all.Given as goal

-- the edits that are left make of the block so far what all make of the block, and find the same
-- after it
abbrev pub invariant-loop-index : goal.invariant-loop-index
invariant-loop-index l = record {
  block : (k : ℕ) → k < 512 → patched_from l.order (drop l.index l.edits) (l.from + k)
      (get_or l.block k 0) ≡ patched_from l.order (drop l.next l.edits) (l.from + k)
      (get_or l.fn.block k 0);
  before : (p : ℕ) → l.from + 512 ≤ p
      → find (covers p) (drop l.next l.edits) ≡ find (covers p) (drop l.index l.edits);
}
