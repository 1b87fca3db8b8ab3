-- Words in either byte order, BIG operands, and blocks.
-- Source: UCSD Pascal II.0 manual, code file format.
use Rattle.std.specs.Prelude.{ℕ, ◌+◌, ◌*◌, ◌/◌, ◌%◌, List, [], ◌∷◌, slice_index}
use Rattle.ps_words.specs.declared.order.Order.{Order}
use Rattle.ps_words.specs.declared.order.Order.TheVariants.{Little, Big}

-- the word of two bytes
abbrev pub word : Order → ℕ → ℕ → ℕ
word Little a b = a + 256 * b
word Big a b = 256 * a + b

-- the word at a place
abbrev pub word_at : Order → List ℕ → ℕ → ℕ
word_at order bytes place = word order (slice_index bytes place) (slice_index bytes (place + 1))

-- the two bytes of a word
abbrev pub word_bytes : Order → ℕ → List ℕ
word_bytes Little v = (v % 256) ∷ (v / 256) ∷ []
word_bytes Big v = (v / 256) ∷ (v % 256) ∷ []

-- the displacement of a BIG operand of two bytes, in either byte order; bit 7 of the first is not
-- looked at
abbrev pub displacement : ℕ → ℕ → ℕ
displacement a b = (a % 128) * 256 + b

-- the displacement of the operand at a place
abbrev pub displacement_at : List ℕ → ℕ → ℕ
displacement_at bytes place = displacement (slice_index bytes place) (slice_index bytes (place + 1))

-- the two bytes of a BIG operand whose displacement is v, at most MAX_OPERAND, in either byte
-- order
abbrev pub operand_bytes : ℕ → List ℕ
operand_bytes v = (128 + v / 256) ∷ (v % 256) ∷ []

-- how many blocks of 512 bytes hold n bytes
abbrev pub blocks : ℕ → ℕ
blocks n = (n + 511) / 512
