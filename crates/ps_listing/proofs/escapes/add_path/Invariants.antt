use Rattle.ps_listing.proofs.Vocabulary.{flat_map, shown_char}
use Rattle.ps_writing.specs.Adding.{Adds}
use Rattle.ps_listing.proofs.escapes.add_path.Given as goal

-- the characters so far were added
abbrev pub invariant-loop-c : goal.invariant-loop-c
invariant-loop-c g l = Adds g.S.TextWriter.added l.fn.text (flat_map shown_char l.yielded) l.text
