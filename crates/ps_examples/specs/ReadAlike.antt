-- A library that a link reads like another one.
-- Source: this project's examples.
use Rattle.std.specs.Prelude.{ℕ, List, [], ◌∷◌, ◌++◌, replicate, take, drop}
use Rattle.ps_words.specs.declared.order.Order.TheVariants.{Little}
use Rattle.ps_examples.specs.Files.{library, put_at, util, with_slot}

-- the library, whose unit begins two blocks later, with a text address and a byte after its end
-- mark
abbrev pub library_elsewhere : List ℕ
library_elsewhere =
    put_at 228 (9 ∷ []) (with_slot Little 2 util 3 3 24 (take 512 library))
    ++ (replicate 1024 7 ++ put_at 988 (9 ∷ []) (drop 512 library))
