use Rattle.std.proofs.Common.{◌≡◌, drop, map}
use Rattle.std.specs.List.{list_any}
use Rattle.ps_check_segments.specs.Seen.{has_slot, seen}
use Rattle.ps_warnings.proofs.findings.entries.is_taken.Given as goal

-- the slot is looked for in what is left
abbrev pub invariant-loop-segment : goal.invariant-loop-segment
invariant-loop-segment l = list_any (has_slot l.slot) (map seen l.list)
    ≡ list_any (has_slot l.slot) (map seen (drop l.segment-index l.list))
