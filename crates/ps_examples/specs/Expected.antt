-- What is written of the small files, stated byte by byte.
-- Source: this project's examples.
use Rattle.std.specs.Prelude.{ℕ, List, [], ◌∷◌, ◌++◌}
use Rattle.ps_words.specs.declared.order.Order.{Order}
use Rattle.ps_words.specs.declared.order.Order.TheVariants.{Little, Big}
use Rattle.ps_examples.specs.Files.{filled_to, put_at, with_slot, no_segments, demo, util, aux, demo_code, util_code}

-- DEMO in block 1 and UTIL in block 2; every kind is LINKED, and the names and byte 300 are the
-- host's
abbrev pub linked_dictionary : Order → List ℕ
linked_dictionary order = put_at 300 (42 ∷ [])
    (with_slot order 1 demo 0 1 18 (with_slot order 7 util 0 2 24 no_segments))

-- a linked file of DEMO and UTIL whose codes are these
abbrev pub linked_with : Order → List ℕ → List ℕ → List ℕ
linked_with order demo_linked util_linked =
    linked_dictionary order ++ filled_to 512 demo_linked ++ filled_to 512 util_linked

-- DEMO's data size is 18, UTIL's references are 3 and 8 + 2, its number is 7
abbrev pub linked_pair : Order → List ℕ
linked_pair Little =
    linked_with Little (215 ∷ 215 ∷ 193 ∷ 0 ∷ 18 ∷ 0 ∷ 4 ∷ 0 ∷ 6 ∷ 0 ∷ 10 ∷ 0
    ∷ 1 ∷ 0 ∷ 2 ∷ 0 ∷ 1 ∷ 1 ∷ [])
    (165 ∷ 128 ∷ 3 ∷ 171 ∷ 128 ∷ 10 ∷ 215 ∷ 215 ∷ 173 ∷ 0 ∷ 0 ∷ 0 ∷ 0 ∷ 0
    ∷ 6 ∷ 0 ∷ 16 ∷ 0 ∷ 1 ∷ 0 ∷ 2 ∷ 0 ∷ 7 ∷ 1 ∷ [])
linked_pair Big =
    linked_with Big (215 ∷ 215 ∷ 193 ∷ 0 ∷ 0 ∷ 18 ∷ 0 ∷ 4 ∷ 0 ∷ 6 ∷ 0 ∷ 10
    ∷ 1 ∷ 0 ∷ 0 ∷ 2 ∷ 1 ∷ 1 ∷ [])
    (165 ∷ 128 ∷ 3 ∷ 171 ∷ 128 ∷ 10 ∷ 215 ∷ 215 ∷ 173 ∷ 0 ∷ 0 ∷ 0 ∷ 0 ∷ 0
    ∷ 0 ∷ 6 ∷ 0 ∷ 16 ∷ 1 ∷ 0 ∷ 0 ∷ 2 ∷ 7 ∷ 1 ∷ [])

-- the linked file of UTIL in place with one public reference: byte 2 alone is changed
abbrev pub linked_in_place : List ℕ
linked_in_place = linked_with Little (demo_code Little)
    (put_at 22 (7 ∷ []) (put_at 2 (3 ∷ []) (util_code Little)))

-- the code of UTIL with these two operands, and its number 7
abbrev pub util_with : ℕ → ℕ → ℕ → ℕ → List ℕ
util_with a b c d = 165 ∷ a ∷ b ∷ 171 ∷ c ∷ d ∷ 215 ∷ 215 ∷ 173 ∷ 0 ∷ 0 ∷ 0
    ∷ 0 ∷ 0 ∷ 6 ∷ 0 ∷ 16 ∷ 0 ∷ 1 ∷ 0 ∷ 2 ∷ 0 ∷ 7 ∷ 1 ∷ []

-- the linked file of the library whose UTIL has zeros at bytes 6 and 7
abbrev pub linked_other_library : List ℕ
linked_other_library =
    linked_with Little (215 ∷ 215 ∷ 193 ∷ 0 ∷ 18 ∷ 0 ∷ 4 ∷ 0 ∷ 6 ∷ 0 ∷ 10 ∷ 0
    ∷ 1 ∷ 0 ∷ 2 ∷ 0 ∷ 1 ∷ 1 ∷ [])
    (put_at 6 (0 ∷ 0 ∷ []) (util_with 128 3 128 10))

-- the linked file of UTIL that names AUX alone: AUX is in slot 8, with the private at 8
abbrev pub linked_added : List ℕ
linked_added =
    put_at 300 (42 ∷ []) (with_slot Little 1 demo 0 1 18
    (with_slot Little 7 util 0 2 24 (with_slot Little 8 aux 0 3 24 no_segments)))
    ++ filled_to 512 (215 ∷ 215 ∷ 193 ∷ 0 ∷ 18 ∷ 0 ∷ 4 ∷ 0 ∷ 6 ∷ 0 ∷ 10 ∷ 0
    ∷ 1 ∷ 0 ∷ 2 ∷ 0 ∷ 1 ∷ 1 ∷ [])
    ++ filled_to 512 (util_with 128 8 128 2)
    ++ filled_to 512 (165 ∷ 128 ∷ 3 ∷ 171 ∷ 128 ∷ 10 ∷ 215 ∷ 215 ∷ 173 ∷ 0 ∷ 0
    ∷ 0 ∷ 0 ∷ 0 ∷ 6 ∷ 0 ∷ 16 ∷ 0 ∷ 1 ∷ 0 ∷ 2 ∷ 0 ∷ 8 ∷ 1 ∷ [])
