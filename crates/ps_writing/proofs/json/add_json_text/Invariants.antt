use Rattle.ps_writing.proofs.Vocabulary.{flat_map}
use Rattle.ps_writing.specs.Adding.{Adds}
use Rattle.ps_writing.specs.JsonStrings.{json_char}
use Rattle.ps_writing.proofs.json.add_json_text.Given as goal

-- the characters so far are added
abbrev pub invariant-loop-c : goal.invariant-loop-c
invariant-loop-c g l =
    Adds g.S.TextWriter.added l.fn.text (flat_map json_char l.yielded) l.text
