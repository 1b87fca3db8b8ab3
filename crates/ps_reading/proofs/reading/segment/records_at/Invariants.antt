use Rattle.ps_reading.proofs.Vocabulary.{◌≡◌, drop, has_records_at}
use Rattle.ps_reading.proofs.reading.segment.records_at.Given as goal

-- what is left has such a records where all have one
abbrev pub invariant-loop-segment : goal.invariant-loop-segment
invariant-loop-segment l = has_records_at l.file l.block l.segments
    ≡ has_records_at l.file l.block (drop l.segment-index l.segments)
