use Rattle.ps_writing.proofs.Vocabulary.{flat_map, reference, references, PIECE_REFERENCES, ◌*◌, ℕ, List, drop}
use Rattle.ps_writing.proofs.Written.{Written}
use Rattle.ps_writing.proofs.pieces.add_references.Given as goal

-- the references that are left are still to be written
abbrev pub invariant-loop-index : goal.invariant-loop-index
invariant-loop-index g l =
    let refs : List ℕ = l.refs in
    Written g.S.TextWriter.added l.fn.text (references refs)
    (flat_map reference (drop (PIECE_REFERENCES * l.index) refs)) l.text
