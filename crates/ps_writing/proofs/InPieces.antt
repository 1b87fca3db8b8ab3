-- A list that is given in pieces.
use Rattle.ps_writing.proofs.Vocabulary.{flat_map, drop-drop, take-append-drop, ◌≡◌, ℕ, ◌+◌, List, ◌++◌, take, drop}
use Rattle.std.proofs.lemmas.Grind.{flat_map-append}

-- the text of the items from i on is that of a piece and of those after it
pub one_piece : {X : Type 0} (line_of : X → List ℕ) (xs : List X) (i n : ℕ)
    → flat_map line_of (take n (drop i xs)) ++ flat_map line_of (drop (i + n) xs)
    ≡ flat_map line_of (drop i xs)
one_piece line_of xs i n = rw (← drop-drop n i xs, ← flat_map-append, take-append-drop)
