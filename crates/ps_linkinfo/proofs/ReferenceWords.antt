-- The words of a list of references.
use Rattle.ps_linkinfo.proofs.Vocabulary.{◌≡◌, ℕ, ◌+◌, ◌*◌, ◌/◌, ◌<◌, ◌≤◌, ◌-◌, ◌∙◌, List, length, get_or, take, drop, ap, arith, zero-add, length-drop, length-take, get_or-take, get_or-drop, refs_at, word, word_at, Order}
use Rattle.std.proofs.lemmas.List.FromFn.{fill_by_all, length-map-range_with_len, get_or-map-range_with_len}
use Rattle.ps_linkinfo.specs.Refs.{words_of}

pub words_len : (order : Order) (bytes : List ℕ)
    → length (words_of order bytes) ≡ length bytes / 2
words_len order bytes = grind (arith, length-map-range_with_len)

pub words_get : (order : Order) (bytes : List ℕ) (i : ℕ) → i < length (words_of order bytes)
    → get_or (words_of order bytes) i 0 ≡ word_at order bytes (2 * i)
words_get order bytes i h = grind (arith, get_or-map-range_with_len, words_len, zero-add)

pub refs_len : (order : Order) (x : List ℕ) (n : ℕ) → length (refs_at order x n) ≡ n
refs_len order x n = length-map-range_with_len (λ i. word_at order x (16 + 2 * i)) 0 n

-- the words of the list are its references
pub refs_are : (order : Order) (x : List ℕ) (n : ℕ) → 16 + 2 * n ≤ length x
    → words_of order (take (16 + 2 * n - 16) (drop 16 x)) ≡ refs_at order x n
refs_are order x n h =
    let part = take (16 + 2 * n - 16) (drop 16 x) in
    let len : length part ≡ 2 * n = omega
    (arith, length-take (16 + 2 * n - 16) (drop 16 x), length-drop 16 x) in
    let count : length (words_of order part) ≡ n = words_len order part ∙ rw len (omega arith)
    in
    let byte : (j : ℕ) → j < 2 * n → get_or part j 0 ≡ get_or x (16 + j) 0 =
    λ j lt. get_or-take (16 + 2 * n - 16) (drop 16 x) j 0 (omega arith)
    ∙ get_or-drop 16 x j 0 in
    fill_by_all (λ i. word_at order x (16 + 2 * i)) (words_of order part) n 0 count
    (λ k lt. words_get order part k (omega arith)
    ∙ (let a = byte (2 * k) (omega arith) in let b = byte (2 * k + 1) (omega arith) in
    rw (a, b) (ap (λ (m : ℕ). word order (get_or x (16 + 2 * k) 0) (get_or x m 0))
    (let e : 16 + (2 * k + 1) ≡ 16 + 2 * k + 1 = omega arith in e))))
