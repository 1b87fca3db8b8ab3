use Rattle.ps_writing.proofs.Vocabulary.{enumerate_from, flat_map, reference_item, ℕ, List, drop}
use Rattle.ps_writing.proofs.Written.{Written}
use Rattle.ps_writing.proofs.json.add_places.Given as goal

-- the references that are left are still to be written
abbrev pub invariant-loop-index : goal.invariant-loop-index
invariant-loop-index g l =
    let refs : List ℕ = l.refs in
    Written g.S.TextWriter.added l.fn.text (flat_map reference_item (enumerate_from 0 refs))
    (flat_map reference_item (enumerate_from l.index (drop l.index refs))) l.text
