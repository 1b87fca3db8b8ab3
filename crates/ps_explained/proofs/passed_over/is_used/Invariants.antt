use Rattle.std.proofs.Common.{◌≡◌, drop, map}
use Rattle.ps_check_segments.specs.Seen.{seen}
use Rattle.ps_explained.specs.OverviewText.{is_used}
use Rattle.ps_explained.proofs.passed_over.is_used.Given as goal

-- none so far
abbrev pub invariant-loop-segment : goal.invariant-loop-segment
invariant-loop-segment l = is_used (map seen l.list) l.file
    ≡ is_used (map seen (drop l.segment-index l.list)) l.file
