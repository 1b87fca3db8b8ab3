-- Edits of a segment's code: where each is, what it stores, and the byte that is found at a place
-- after them.
use Rattle.std.specs.Prelude.{ℕ, ◌+◌, ◌-◌, ◌≤◌, ◌&&◌, List, [], ◌∷◌, slice_index, nat_le, nat_lt, Bool, ⊤, All, find}
use Rattle.std.specs.Option.{option_map_or}
use Rattle.ps_words.specs.Words.{word_bytes, operand_bytes}
use Rattle.ps_words.specs.declared.order.Order.{Order}
use Rattle.ps_words.specs.declared.edit.Edit.{Edit}
use Rattle.ps_words.specs.declared.edit.Edit.TheVariants.{Big, Byte, Word}
use Rattle.ps_words.specs.declared.words.TheConstants.{MAX_OPERAND}

-- the first place of an edit
abbrev pub place_of : Edit → ℕ
place_of (Big value place) = place
place_of (Byte value place) = place
place_of (Word value place) = place

-- the bytes that an edit stores
abbrev pub stored_bytes : Order → Edit → List ℕ
stored_bytes order (Big value place) = operand_bytes value
stored_bytes order (Byte value place) = value ∷ []
stored_bytes order (Word value place) = word_bytes order value

-- how many they are
abbrev pub width : Edit → ℕ
width (Big value place) = 2
width (Byte value place) = 1
width (Word value place) = 2

-- the edit stores a byte at place p
abbrev pub covers : ℕ → Edit → Bool
covers p edit = nat_le (place_of edit) p && nat_lt p (place_of edit + width edit)

-- the byte at p after the edits: what the first that covers p stores there, and the code's own
-- where none does
abbrev pub patched_byte : Order → List ℕ → List Edit → ℕ → ℕ
patched_byte order code edits p =
    option_map_or (λ edit. slice_index (stored_bytes order edit) (p - place_of edit))
    (find (covers p) edits) (slice_index code p)

-- a BIG operand holds 15 bits
abbrev pub IsStorable : Edit → Type 0
IsStorable (Big value place) = value ≤ MAX_OPERAND
IsStorable (Byte value place) = ⊤
IsStorable (Word value place) = ⊤

-- an edit of a code of n bytes
pub record IsInside (n : ℕ) (e : Edit) : Type 0 where
  pub storable : IsStorable e
  pub within : place_of e + width e ≤ n

-- each edit begins at `from` or after it, and after the end of the one before
abbrev pub AreApart : ℕ → List Edit → Type 0
AreApart from [] = ⊤
AreApart from (e ∷ es) = (from ≤ place_of e) × AreApart (place_of e + width e) es

-- edits of a code of n bytes: inside it, ascending by place, disjoint, each BIG value at most
-- MAX_OPERAND
pub record AreEdits (n : ℕ) (edits : List Edit) : Type 0 where
  pub inside : All (IsInside n) edits
  pub apart : AreApart 0 edits
