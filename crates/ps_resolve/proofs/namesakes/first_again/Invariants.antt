use Rattle.ps_linkinfo.specs.RecordCounts.{is_private_reference}
use Rattle.ps_resolve.proofs.EarlierNames.{Scans}
use Rattle.ps_reading.proofs.NumberedRecords.{IsLeft}
use Rattle.ps_resolve.proofs.namesakes.first_again.Given as goal

-- the set has the names of the records of this kind so far, none of which an earlier one has
abbrev pub invariant-loop-rec : goal.invariant-loop-rec
invariant-loop-rec g l = IsLeft (Scans is_private_reference l.records l.names.keys) l.rec-iterator
