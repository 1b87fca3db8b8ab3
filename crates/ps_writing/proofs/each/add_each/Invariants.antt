use Rattle.ps_writing.proofs.Vocabulary.{flat_map, drop, List, ℕ}
use Rattle.ps_writing.specs.Adding.{Adds}
use Rattle.ps_writing.proofs.Written.{Written}
use Rattle.ps_writing.proofs.each.add_each.Given as goal

-- the texts of the items that are left are still to be written
abbrev pub invariant-loop-item : goal.invariant-loop-item
invariant-loop-item g l = (line : _ → List ℕ)
    → ((s : _) (x : _) (t : _) → goal.F-post g l.add s x tt t
    → Adds g.S.TextWriter.added s.now (line x.now) t.now)
    → Written g.S.TextWriter.added l.fn.text (flat_map line l.items)
    (flat_map line (drop l.item-index l.items)) l.text
