use Rattle.std.proofs.Common.{◌≡◌, ◌≤◌, ◌++◌, length, sum, drop}
use Rattle.ps_resolve.specs.Sources.{contents}
use Rattle.ps_c_link.specs.Libraries.{split}
use Rattle.ps_c_link.proofs.libraries.split.Given as goal

-- the parts so far and those that are left, which have all of what is left, and room for all
abbrev pub invariant-loop-length : goal.invariant-loop-length
invariant-loop-length g l =
    (contents l.parts.items ++ split l.rest (drop l.length-index l.lengths)
    ≡ split l.bytes l.lengths)
    × (sum (drop l.length-index l.lengths) ≡ length l.rest)
    × (length l.parts.items ≡ l.length-index) × (length l.lengths ≤ l.parts.capacity)
