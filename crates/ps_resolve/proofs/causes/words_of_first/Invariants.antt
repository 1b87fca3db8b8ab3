use Rattle.ps_reading.proofs.NumberedRecords.{IsLeft}
use Rattle.ps_resolve.proofs.WordsBefore.{AddUp}
use Rattle.ps_resolve.proofs.causes.words_of_first.Given as goal

-- the words so far and those of what is left are all
abbrev pub invariant-loop-rec : goal.invariant-loop-rec
invariant-loop-rec l = IsLeft (AddUp l.records l.count l.words) l.rec-iterator
