-- Names as they ought to be written, and names that differ only in what a careless hand changes.
use Rattle.std.specs.Prelude.{ℕ, ◌==◌, ◌%◌, ◌&&◌, ◌||◌, not, if◌then◌else◌, Bool, List, drop, map, slice_index}
use Rattle.std.specs.Char.{to_ascii_uppercase}
use Rattle.std.specs.List.{list_all, range_with_len}
use Rattle.std.specs.Str.{bytes_eq}

-- a byte of a name as it ought to be written: without bit 7, a capital letter, and a blank for a 0
abbrev pub plain_byte : ℕ → ℕ
plain_byte byte = if byte % 128 == 0 then 32 else to_ascii_uppercase (byte % 128)

-- a name as it ought to be written
abbrev pub plain : List ℕ → List ℕ
plain name = map plain_byte name

-- the names differ, and only in what a careless hand changes
abbrev pub is_near : List ℕ → List ℕ → Bool
is_near a b = not (bytes_eq a b) && bytes_eq (plain a) (plain b)

-- the byte may pad a name: a blank, or a 0 in its place
abbrev pub is_padding : ℕ → Bool
is_padding byte = byte == 32 || byte == 0

-- at this place the names have one letter, a capital or a small one, or both have padding from here on
abbrev pub is_alike_at : List ℕ → List ℕ → ℕ → Bool
is_alike_at a b i = to_ascii_uppercase (slice_index a i) == to_ascii_uppercase (slice_index b i)
    || list_all is_padding (drop i a) && list_all is_padding (drop i b)

-- the names, of eight bytes, differ in capitals A to Z or in padding alone
unfoldable pub is_respelled : List ℕ → List ℕ → Bool
is_respelled a b = not (bytes_eq a b) && list_all (is_alike_at a b) (range_with_len 0 8)
