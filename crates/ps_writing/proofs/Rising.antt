-- How the counts of a writer rise while bytes are written in pieces.
use Rattle.ps_writing.proofs.Vocabulary.{min, Counts, NoneFailed, Rises, ◌≡◌, ◌≢◌, ℕ, ◌+◌, ◌-◌, ◌≤◌, ◌<◌, Bool, true, false, Result, Ok, Err, arith, ◌^◌, AreAtMost, AreBelow, HasRoom, RisesByPieces, counts_after, one_more, saturated_after}
use Rattle.std.specs.declared.io.Error.{Error}

-- a count that 64 bits can hold one more of rises by one
one_more_is : (n : ℕ) → n < 18446744073709551615 → one_more n ≡ n + 1
one_more_is n lt = omega arith

-- where each count can, each that applies rises by one
pub none_saturated : {E : Type 0} (c : Counts) (size : ℕ) (result : Result ℕ E)
    → AreBelow c 18446744073709551615
    → saturated_after c size result ≡ counts_after c size result
none_saturated c size (Ok taken) low = grind (arith, one_more_is)
none_saturated c size (Err error) low = grind (arith, one_more_is)

-- the counts after the first i of so many bytes went out; while some are left, each write was short
pub record Progress (old new : Counts) (size i : ℕ) : Type 0 where
  pub by_bytes : new.writes ≤ old.writes + i
  pub by_pieces : old.shorts + size < 2 ^ 64
      → new.writes + old.shorts ≤ old.writes + min 1 i + new.shorts
  pub unfinished : i < size → old.shorts + size < 2 ^ 64
      → new.writes + old.shorts ≤ old.writes + new.shorts
  pub shorts : new.shorts ≤ old.shorts + i
  pub none : NoneFailed old new

-- a write took some of those that were left
pub progress : (old mid : Counts) (size i taken left : ℕ) → Progress old mid size i → i < size
    → left ≡ size - i → taken ≤ left → taken ≢ 0
    → Progress old (saturated_after {E = Error} mid left (Ok taken)) size (i + taken)
progress old mid size i taken left h lt is le ne = grind arith

-- where the counts have room for n writes, and at most so many were made and none failed, they have
-- room for those that are left
room_left : (needed : Bool) (old new : Counts) (n made left : ℕ) → HasRoom needed old n
    → new.writes ≤ old.writes + made → new.shorts ≤ old.shorts + made → NoneFailed old new
    → made + left ≤ n → HasRoom needed new left
room_left true old new n made left room writes shorts none le = grind arith
room_left false old new n made left room writes shorts none le = tt

-- after some pieces there is room for those that are left
pub room_then : (needed : Bool) (old new : Counts) (n size pieces left : ℕ)
    → HasRoom needed old n → Rises old new size pieces → NoneFailed old new
    → size + left ≤ n → HasRoom needed new left
room_then needed old new n size pieces left room h none le = grind (arith, room_left)

-- some pieces, and then more, of a file that has still more
pub rises_then : (a b c : Counts) (m x n y size pieces : ℕ) → Rises a b m x
    → Rises b c n y → m + n ≤ size → x + y ≤ pieces → Rises a c size pieces
rises_then a b c m x n y size pieces h k le few = grind arith

-- a writer with small counts can count what is written of a file
pub by_pieces : (old new : Counts) → AreAtMost old 4294967296 → (size pieces : ℕ)
    → size ≤ 4294967296 → Rises old new size pieces → RisesByPieces old new pieces
by_pieces old new small size pieces le h = h.by_pieces (omega (arith, small.shorts))
