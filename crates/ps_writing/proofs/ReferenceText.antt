-- The text of references, which is written from the last one on.
use Rattle.ps_writing.proofs.Vocabulary.{MAX_WORD, PIECE_REFERENCES, ◌≡◌, ℕ, ◌+◌, ◌-◌, ◌≤◌, List, length, take, drop, ◌∙◌, ap, arith, decimal, min, length-drop, take_min}
use Rattle.std.proofs.lemmas.Fmt.{length-decimal-le}

pub digits_few : (n : ℕ) → n ≤ MAX_WORD → length (decimal n) ≤ 5
digits_few n h = length-decimal-le 5 n (omega arith) (omega (arith, h)) (omega (arith, h))

-- a piece has all that are left, and at most PIECE_REFERENCES
pub piece_is : (xs : List ℕ) (i end : ℕ) → i ≤ length xs → end ≡ min (length xs)
    (i + PIECE_REFERENCES) → take (end - i) (drop i xs) ≡ take PIECE_REFERENCES (drop i xs)
piece_is xs i end h is =
    let count : end - i ≡ min PIECE_REFERENCES (length (drop i xs)) =
    omega (arith, h, is, length-drop i xs) in
    ap (λ n. take n (drop i xs)) count ∙ take_min PIECE_REFERENCES (drop i xs)
