use Rattle.std.proofs.Common.{◌≡◌, ◌+◌, sum, drop}
use Rattle.ps_c_link.proofs.libraries.add_up.Given as goal

-- what is left of the total, against what is left of the lengths
abbrev pub invariant-loop-length : goal.invariant-loop-length
invariant-loop-length l = sum l.lengths + l.left ≡ l.total + sum (drop l.length-index l.lengths)
