-- What becomes of a room of the caller.
use Rattle.std.specs.Prelude.{◌≡◌, ℕ, List, ◌++◌, length, drop}

-- the room begins with these bytes, and what is after them is as before
abbrev pub RoomBeginsWith : List ℕ → List ℕ → List ℕ → Type 0
RoomBeginsWith bytes old new = new ≡ bytes ++ drop (length bytes) old
