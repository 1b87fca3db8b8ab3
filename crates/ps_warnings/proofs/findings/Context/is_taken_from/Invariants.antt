use Rattle.std.proofs.Common.{◌≡◌, drop, map}
use Rattle.std.specs.List.{list_any}
use Rattle.ps_check_segments.specs.Seen.{seen}
use Rattle.ps_warnings.specs.Searches.FileFindings.{comes_from}
use Rattle.ps_warnings.proofs.findings.Context.is_taken_from.Given as goal

-- the answer is that of the segments that are left
abbrev pub invariant-loop-segment : goal.invariant-loop-segment
invariant-loop-segment l = list_any (comes_from l.file l.name) (map seen l.self.list.now)
    ≡ list_any (comes_from l.file l.name) (map seen (drop l.segment-index l.self.list.now))
