use Rattle.ps_writing.proofs.Vocabulary.{flat_map, enumerate_from, drop, get_or, length, ℕ, List, ◌≡◌, ◌<◌}
use Rattle.ps_writing.specs.Adding.{Adds}
use Rattle.ps_writing.proofs.Written.{Written}
use Rattle.ps_writing.proofs.each.add_each_row.Given as goal

-- the rows of the items that are left are still to be written
abbrev pub invariant-loop-i : goal.invariant-loop-i
invariant-loop-i g l = (line : _ → List ℕ)
    → ((s : _) (i : ℕ) (x : _) (t : _) → i < length l.items
    → x.now ≡ get_or l.items i x.now → goal.F-post g l.add s i x tt t
    → Adds g.S.TextWriter.added s.now (line (i, x.now)) t.now)
    → Written g.S.TextWriter.added l.fn.text (flat_map line (enumerate_from 0 l.items))
    (flat_map line (enumerate_from l.i (drop l.i l.items))) l.text
