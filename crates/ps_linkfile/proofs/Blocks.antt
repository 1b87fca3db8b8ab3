-- The blocks of codes whose slots ascend.
use Rattle.ps_linkfile.proofs.Vocabulary.{nat_lt, filter, find, blocks, Order, pair_of, Ascend, All, All-nil, All-head, All-tail, block_of, nat_tests, word_bytes, all_blocks, ◌≡◌, ◌≤◌, ◌==◌, ◌∷◌, length-append, ◌∙◌, ℕ, List, map, take, drop, None, refl, ◌+◌, ◌*◌, ◌<◌, [], ◌++◌, length, arith, eq-eqb, take-add, map-append, MAX_CODE_LEN, MAX_CODE_BLOCKS, SLOT_COUNT, SLOTS, Segment}
use Rattle.std.proofs.lemmas.List.Sums.{sum_by-cons, sum_by_push}

pub all_blocks-cons : (o : Segment) (os : List Segment)
    → all_blocks (o ∷ os) ≡ blocks (length o.code) + all_blocks os
all_blocks-cons o os = sum_by-cons (λ (p : Segment). blocks (length p.code)) o os

-- sixteen slots at most
pub few_codes : (from : ℕ) (os : List Segment) → from ≤ SLOTS → Ascend from os
    → from + length os ≤ SLOT_COUNT
few_codes from [] k h = omega arith
few_codes from (o ∷ os) k h = grind (arith, few_codes (o.slot + 1) os)

-- a code takes at most MAX_CODE_BLOCKS blocks
pub few_blocks : (os : List Segment) → All (λ o. length o.code ≤ MAX_CODE_LEN) os
    → all_blocks os ≤ MAX_CODE_BLOCKS * length os
few_blocks [] h = omega arith
few_blocks (o ∷ os) h =
    let P : Segment → Type 0 = λ p. length p.code ≤ MAX_CODE_LEN in
    let one : length o.code ≤ MAX_CODE_LEN = All-head P o os h in
    let rest = few_blocks os (All-tail P o os h) in
    omega (arith, all_blocks-cons o os, one, rest)

-- each slot is one of sixteen
pub slots_below : (from : ℕ) (os : List Segment) → Ascend from os
    → All (λ o. o.slot < SLOTS) os
slots_below from [] h = All-nil (λ (o : Segment). o.slot < SLOTS)
slots_below from (o ∷ os) h = grind (arith, slots_below (o.slot + 1) os h.2)

-- no code is before the first
pub none_before : (from : ℕ) (os : List Segment) (slot : ℕ) → Ascend from os → slot ≤ from
    → filter (λ o. nat_lt o.slot slot) os ≡ []
none_before from [] slot h k = refl
none_before from (o ∷ os) slot h k =
    grind (arith, nat_tests, none_before (o.slot + 1) os slot h.2)

-- where slots ascend from a number on, no code has a slot below it
pub none_there : (from : ℕ) (os : List Segment) (slot : ℕ) → Ascend from os → slot < from
    → find (λ o. o.slot == slot) os ≡ None
none_there from [] slot h k = refl
none_there from (o ∷ os) slot h k = grind (arith, nat_tests, none_there (o.slot + 1) os slot h.2)

-- From a slot on, the codes that are left decide where all are; the first of them begins in this
-- block.
pub record Left (all : List Segment) (from block : ℕ) (rest : List Segment) : Type 0 where
  pub ascend : Ascend from rest
  pub behind : (slot : ℕ) → from ≤ slot
      → block_of all slot ≡ block + all_blocks (filter (λ o. nat_lt o.slot slot) rest)
  pub found : (slot : ℕ) → from ≤ slot
      → find (λ o. o.slot == slot) all ≡ find (λ o. o.slot == slot) rest

pub left_start : (all : List Segment) → Ascend 0 all → Left all 0 1 all
left_start all h = record { ascend = h; behind = λ slot k. refl; found = λ slot k. refl }

module _ (all : List Segment) (from block : ℕ) (o : Segment) (rest : List Segment) where
  -- the first of those that are left is passed over
  pub left_more : Left all from block (o ∷ rest)
      → Left all (o.slot + 1) (block + blocks (length o.code)) rest
  left_more h = grind (arith, nat_tests, all_blocks-cons)

  -- the code of a segment begins in this block
  pub first_block : Left all from block (o ∷ rest) → block_of all o.slot ≡ block
  first_block h = grind (arith, none_before)

module _ (order : Order) (all : List Segment) (from block : ℕ) where
  -- what the dictionary says of it
  pub first_pair : (o : Segment) (rest : List Segment) → Left all from block (o ∷ rest)
      → pair_of order all o.slot ≡ word_bytes order block ++ word_bytes order (length o.code)
  first_pair o rest h = grind (arith, eq-eqb, none_before)

  -- what it says of a slot before the first that is left
  pub no_pair : (rest : List Segment) (next slot : ℕ)
      → Left all from block rest → Ascend next rest
      → from ≤ slot → slot < next → pair_of order all slot ≡ 0 ∷ 0 ∷ 0 ∷ 0 ∷ []
  no_pair rest next slot h k le lt = grind (arith, none_there)

-- so many of a list and the next
took : {X : Type 0} (xs : List X) (i : ℕ) (x : X) → drop i xs ≡ x ∷ drop (i + 1) xs
    → take (i + 1) xs ≡ take i xs ++ x ∷ []
took {X} xs i x h = rw (take-add, h)

-- the first so many codes are laid out; the next begins in this block
pub record LaidSoFar (all : List Segment) (count : ℕ) (starts : List ℕ)
    (block from : ℕ) : Type 0 where
  pub left : Left all from block (drop count all)
  pub few : count ≤ from
  pub small : block ≤ 1 + MAX_CODE_BLOCKS * count
  pub many : length starts ≡ count
  pub begins : starts ≡ map (λ o. block_of all o.slot) (take count all)
  pub blocks : block ≡ 1 + all_blocks (take count all)

module _ (all : List Segment) (count : ℕ) (starts : List ℕ) (block from : ℕ) where
  laid_here : (o : Segment) → drop count all ≡ o ∷ drop (count + 1) all
      → LaidSoFar all count starts block from → Left all from block (o ∷ drop (count + 1) all)
  laid_here o is h = rw is at h.left

  -- with one code more laid out, its start is the block that was reached, and the next begins after
  -- its blocks
  pub laid_more : (o : Segment) → drop count all ≡ o ∷ drop (count + 1) all
      → length o.code ≤ MAX_CODE_LEN → LaidSoFar all count starts block from
      → LaidSoFar all (count + 1) (starts ++ block ∷ [])
      (block + blocks (length o.code)) (o.slot + 1)
  laid_more o is size h =
      let at = laid_here o is h in
      let more : take (count + 1) all ≡ take count all ++ o ∷ [] = took all count o is in
      let begins : block_of all o.slot ≡ block =
      first_block all from block o (drop (count + 1) all) at in
      let start : Segment → ℕ = λ p. block_of all p.slot in
      let sum_is : all_blocks (take (count + 1) all)
      ≡ all_blocks (take count all) + blocks (length o.code) =
      rw more (sum_by_push (λ (p : Segment). blocks (length p.code)) (take count all) o) in
      let low : from ≤ o.slot = at.ascend.0 in
      record {
        left = left_more all from block o (drop (count + 1) all) at;
        few = omega arith;
        small = omega arith;
        many = length-append starts (block ∷ []) ∙ omega arith;
        begins = rw (h.begins, more, map-append, begins);
        blocks = omega arith;
      }
