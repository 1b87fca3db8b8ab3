use Rattle.std.proofs.Common.{◌≡◌, drop, map}
use Rattle.std.specs.List.{list_any}
use Rattle.ps_check_segments.specs.Seen.{has_slot, seen}
use Rattle.ps_explained.proofs.overview.has_segment.Given as goal

-- none so far
abbrev pub invariant-loop-segment : goal.invariant-loop-segment
invariant-loop-segment l = list_any (has_slot l.slot) (map seen l.list)
    ≡ list_any (has_slot l.slot) (map seen (drop l.segment-index l.list))
