use Rattle.std.proofs.Common.{◌≡◌, drop, map}
use Rattle.std.specs.List.{find}
use Rattle.ps_check_segments.specs.Seen.{is_host_part, seen}
use Rattle.ps_check_segments.proofs.segments.host_of.Given as goal

-- the host program is looked for in what is left
abbrev pub invariant-loop-segment : goal.invariant-loop-segment
invariant-loop-segment l = find (λ s. is_host_part s.part) (map seen l.list)
    ≡ find (λ s. is_host_part s.part) (map seen (drop l.segment-index l.list))
