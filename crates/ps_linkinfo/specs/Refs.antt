-- The words of a list of references.
-- Source: the published II.0 Linker source.
use Rattle.std.specs.Prelude.{ℕ, ◌*◌, ◌/◌, ◌==◌, if◌then◌else◌, List, length, map}
use Rattle.std.specs.List.{range_with_len}
use Rattle.ps_words.specs.Words.{word_at}
use Rattle.ps_words.specs.declared.order.Order.{Order}
use Rattle.ps_words.specs.declared.order.Order.TheVariants.{Little, Big}

-- the words of the bytes, one after another; a last odd byte is none
abbrev pub words_of : Order → List ℕ → List ℕ
words_of order bytes = map (λ i. word_at order bytes (2 * i)) (range_with_len 0 (length bytes / 2))

-- the order of words of which the byte of this index, 0 or 1, is the low one
abbrev pub order_with : ℕ → Order
order_with low = if low == 0 then Little else Big
