use Rattle.std.proofs.Common.{◌≡◌, ◌≤◌, [], drop, length, arith, drop_of_length-le}
use Rattle.ps_writing.proofs.pieces.write_piece.Goals as goal

pub loop-step-init : goal.loop-step-init
loop-step-init c =
    let long : length c.args.piece.now ≤ 384 = omega arith in
    let none : drop 384 c.args.piece.now ≡ [] = drop_of_length-le c.args.piece.now long in
    record {
      begins = omega arith;
      inside = omega arith;
      text = none;
    }
