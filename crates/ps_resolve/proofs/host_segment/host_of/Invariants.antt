use Rattle.ps_resolve.proofs.Vocabulary.{◌≡◌, drop, host_of}
use Rattle.ps_resolve.proofs.host_segment.host_of.Given as goal

-- the host's segment is one of those that are left
abbrev pub invariant-loop-segment : goal.invariant-loop-segment
invariant-loop-segment l = host_of (drop l.segment-index l.segments) ≡ host_of l.segments
