use Rattle.ps_writing.proofs.Vocabulary.{flat_map, range_with_len, ℕ, List, ◌-◌}
use Rattle.ps_writing.specs.Adding.{Adds}
use Rattle.ps_writing.proofs.Written.{Written}
use Rattle.ps_writing.proofs.each.add_each_slot.Given as goal

-- the lines of the slots that are left are still to be written
abbrev pub invariant-loop-slot : goal.invariant-loop-slot
invariant-loop-slot g l = (line : ℕ → List ℕ)
    → ((s : _) (i : ℕ) (t : _) → goal.F-post g l.add s i tt t
    → Adds g.S.TextWriter.added s.now (line i) t.now)
    → Written g.S.TextWriter.added l.fn.text (flat_map line (range_with_len 0 l.many))
    (flat_map line (range_with_len l.slot (l.many - l.slot))) l.text
