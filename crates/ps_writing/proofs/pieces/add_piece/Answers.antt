use Rattle.std.proofs.Common.{arith, length-drop, take_all}
use Rattle.ps_writing.proofs.ReferenceText.{piece_is}
use Rattle.ps_writing.proofs.Written.{adds_is}
use Rattle.ps_writing.proofs.pieces.add_piece.Goals as goal

pub returns : goal.returns
returns g c = grind (arith, length-drop, adds_is, take_all, piece_is)
