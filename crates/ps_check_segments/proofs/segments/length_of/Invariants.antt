use Rattle.std.proofs.Common.{◌≡◌, ◌+◌, ◌<◌, ◌^◌}
use Rattle.ps_linkinfo.specs.Records.{used_by}
use Rattle.ps_check_segments.proofs.Lengths.{used_by_numbered}
use Rattle.ps_check_segments.proofs.segments.length_of.Given as goal

-- the bytes so far and those of the records that are left are all
abbrev pub invariant-loop-record : goal.invariant-loop-record
invariant-loop-record l = used_by l.records < 2 ^ 64
    → l.length + used_by_numbered l.record-iterator ≡ used_by l.records
