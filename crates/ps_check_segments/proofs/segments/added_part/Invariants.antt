use Rattle.std.proofs.Common.{◌≡◌, drop}
use Rattle.ps_check_segments.specs.SegmentParts.{added_by}
use Rattle.ps_check_segments.proofs.segments.added_part.Given as goal

-- the segment is looked for in what is left
abbrev pub invariant-loop-segment : goal.invariant-loop-segment
invariant-loop-segment l = added_by l.segments l.at
    ≡ added_by (drop l.segment-index l.segments) l.at
