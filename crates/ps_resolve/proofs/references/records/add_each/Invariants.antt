use Rattle.ps_resolve.proofs.Vocabulary.{◌≡◌, edits_of}
use Rattle.ps_reading.proofs.NumberedRecords.{IsLeft}
use Rattle.ps_resolve.proofs.NextRecords.{Links}
use Rattle.ps_resolve.proofs.references.records.add_each.Given as goal

-- the edits so far and those of what is left are all; so is the first fault of what is left
abbrev pub invariant-loop-rec : goal.invariant-loop-rec
invariant-loop-rec g l =
    record {
      links : IsLeft (Links l.names l.found.procedures l.free l.records
          (edits_of l.fn.found.edits.states.items) l.next l.found.edits.states.items)
          l.rec-iterator;
      procedures : l.found.procedures ≡ l.fn.found.procedures;
    }
