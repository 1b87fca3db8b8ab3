use Rattle.ps_resolve.proofs.Vocabulary.{◌≡◌, take}
use Rattle.ps_resolve.proofs.from_reading.copied.Given as goal

-- the segments so far
abbrev pub invariant-loop-segment : goal.invariant-loop-segment
invariant-loop-segment l = l.table.items ≡ take l.segment-index l.segments
