use Rattle.std.proofs.Common.{◌≡◌, ◌+◌, drop}
use Rattle.ps_resolve.specs.Causes.{words_before}
use Rattle.ps_resolve.proofs.causes.words_before.Given as goal

-- the words so far and those of the segments that are left are all
abbrev pub invariant-loop-segment : goal.invariant-loop-segment
invariant-loop-segment l =
    l.words + words_before l.slot l.rec (drop l.segment-index l.segments)
    ≡ words_before l.slot l.rec l.segments
