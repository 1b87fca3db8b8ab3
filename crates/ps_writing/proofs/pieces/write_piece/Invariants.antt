use Rattle.ps_writing.proofs.Vocabulary.{flat_map, reference, ◌≡◌, ◌≤◌, ◌+◌, ◌-◌, ◌*◌, drop, take}
use Rattle.ps_writing.proofs.pieces.write_piece.Given as goal

-- the text of the last references is at the end of the piece, of six bytes each at most
abbrev pub invariant-loop-step : goal.invariant-loop-step
invariant-loop-step l = record {
  begins : 384 ≤ l.start + 6 * l.step;
  inside : l.start ≤ 384;
  text : drop l.start l.piece ≡ flat_map reference (take l.step (drop (l.end - l.step) l.refs));
}
