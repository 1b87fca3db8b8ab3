use Rattle.ps_linkinfo.proofs.Vocabulary.{◌≡◌, numbered_records}
use Rattle.ps_linkinfo.specs.Sorts.{first_named}
use Rattle.ps_linkinfo.proofs.information.LinkInformation.find.Given as goal

-- the first of all is the first of those that are left
abbrev pub invariant-loop-rec : goal.invariant-loop-rec
invariant-loop-rec l = first_named l.name l.sort l.rec-iterator
    ≡ first_named l.name l.sort (numbered_records 0 l.self)
