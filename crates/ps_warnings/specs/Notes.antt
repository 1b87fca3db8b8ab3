-- What is looked at before a note is made: the operands and the names that may be damaged.
use Rattle.std.specs.Prelude.{ℕ, ◌+◌, ◌&&◌, List, length, nat_lt, slice_index, Bool}

-- bit 7 of the operand at a place of a code is clear, where the code has both of its bytes
abbrev pub is_clear : List ℕ → ℕ → Bool
is_clear code place = nat_lt (place + 1) (length code) && nat_lt (slice_index code place) 128
