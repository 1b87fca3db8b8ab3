use Rattle.ps_resolve.proofs.EarlierNames.{AreNumbers}
use Rattle.ps_reading.proofs.NumberedRecords.{IsLeft}
use Rattle.ps_resolve.proofs.namesakes.numbers_of.Given as goal

-- the numbers so far and those of what is left are all
abbrev pub invariant-loop-record : goal.invariant-loop-record
invariant-loop-record g l = IsLeft (AreNumbers l.records l.numbers.items) l.record-iterator
