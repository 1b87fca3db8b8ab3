use Rattle.ps_writing.proofs.Vocabulary.{reference, PIECE_REFERENCES, ◌≡◌, ◌+◌, ◌*◌, ℕ, List, arith, sym}
use Rattle.ps_writing.proofs.InPieces.{one_piece}
use Rattle.ps_writing.proofs.Written.{some_more}
use Rattle.ps_writing.proofs.pieces.add_references.Goals as goal

pub loop-index-preserved : goal.loop-index-preserved
loop-index-preserved g c =
    let refs : List ℕ = c.args.refs.now in
    let i : ℕ = c.loop-index.index in
    let next : PIECE_REFERENCES * (i + 1) ≡ PIECE_REFERENCES * i + PIECE_REFERENCES =
    omega arith in
    let split = one_piece reference refs (PIECE_REFERENCES * i) PIECE_REFERENCES in
    some_more (rw next (sym split)) c.loop-index.invariant c.add_piece.ensures
