use Rattle.ps_reading.proofs.Vocabulary.{◌≡◌, chosen_library, opened}
use Rattle.ps_reading.proofs.ReadingLibraries.{chosen_from}
use Rattle.ps_reading.proofs.reading.units.chosen_library.Given as goal

-- the library is the first from here on that has such an entry
abbrev pub invariant-loop-library : goal.invariant-loop-library
invariant-loop-library l = chosen_library l.order l.name (opened l.order l.libs)
    ≡ chosen_from l.order l.name l.libs l.library
