use Rattle.ps_resolve.proofs.Vocabulary.{◌≡◌}
use Rattle.indexmap.specs.IndexMap.{hasher_of}
use Rattle.ps_resolve.proofs.Duplicates.{Defines}
use Rattle.ps_reading.proofs.NumberedRecords.{IsLeft}
use Rattle.ps_resolve.proofs.definitions.define_all.Given as goal

-- what the map has and what is left are all; so is the first of what is left
abbrev pub invariant-loop-rec : goal.invariant-loop-rec
invariant-loop-rec g l = record {
  left : IsLeft (Defines l.records l.by_name.entries) l.rec-iterator;
  keyed : hasher_of l.by_name ≡ hasher_of l.fn.by_name;
}
