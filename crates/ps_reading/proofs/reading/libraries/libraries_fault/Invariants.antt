use Rattle.ps_reading.proofs.Vocabulary.{◌≡◌, libraries_fault}
use Rattle.ps_reading.proofs.ReadingLibraries.{files, rest_of}
use Rattle.ps_reading.proofs.reading.libraries.libraries_fault.Given as goal

-- the first fault is that of the libraries from here on
abbrev pub invariant-loop-i : goal.invariant-loop-i
invariant-loop-i l = libraries_fault l.order (files l.libs) ≡ rest_of l.order l.libs l.i
