use Rattle.std.proofs.Common.{◌≡◌, drop}
use Rattle.ps_check_segments.specs.SegmentParts.{requester_of}
use Rattle.ps_check_segments.proofs.segments.requester_of.Given as goal

-- the record is looked for in what is left
abbrev pub invariant-loop-request : goal.invariant-loop-request
invariant-loop-request l = requester_of l.requests l.name
    ≡ requester_of (drop l.request-index l.requests) l.name
