-- The sixteen pairs of a segment dictionary, byte by byte.
use Rattle.ps_linkfile.proofs.Vocabulary.{flat_map, range_with_len, cases_lt, word_bytes, blocks, Order, slots, Ascend, get_or-replicate, length-replicate, get_or_append_left, ext_get_or, drop_all, ◌≡◌, ◌≢◌, ℕ, zero, suc, ◌+◌, ◌*◌, ◌/◌, ◌%◌, ◌≤◌, ◌<◌, List, [], ◌∷◌, ◌++◌, length, get_or, drop, replicate, sym, ◌∙◌, ap, subst, inl, inr, arith, length-append, get_or-append_right, SLOTS, Segment}
use Rattle.ps_linkfile.specs.LinkedFile.{block_of, pair_of, all_pairs}
use Rattle.ps_linkfile.proofs.Blocks.{Left, left_start, left_more, first_block, first_pair, no_pair}

module _ (f : ℕ → List ℕ) where
  -- place j of what f gives of the s-th number, where it gives four bytes of each
  pub four_at : ((s : ℕ) → length (f s) ≡ 4) → (n a s j : ℕ) → s < n → j < 4
      → get_or (flat_map f (range_with_len a n)) (4 * s + j) 0 ≡ get_or (f (a + s)) j 0
  four_at h zero a s j k l = absurd (omega arith)
  four_at h (suc n) a zero j k l = grind (arith, get_or_append_left)
  four_at h (suc n) a (suc s) j k l = grind (arith, get_or-append_right, four_at h n (a + 1) s j)

  -- where f gives four bytes of each number, it gives 4 * n bytes of n numbers
  pub four_each : ((s : ℕ) → length (f s) ≡ 4)
      → (n a : ℕ) → length (flat_map f (range_with_len a n)) ≡ 4 * n
  four_each h zero a = omega arith
  four_each h (suc n) a = grind (arith, length-append, four_each h n (a + 1))

module _ (order : Order) (all : List Segment) where
  -- the pair of a slot has four bytes
  pub pair_four : (slot : ℕ) → length (pair_of order all slot) ≡ 4
  pair_four slot = grind arith

  -- the sixteen pairs, slot by slot and byte by byte
  pub pairs_at : (slot j : ℕ) → slot < SLOTS → j < 4 → get_or
      (flat_map (pair_of order all) slots) (4 * slot + j) 0 ≡ get_or (pair_of order all slot) j 0
  pairs_at slot j k l =
      let is : 0 + slot ≡ slot = omega arith in
      four_at (pair_of order all) (pair_four) SLOTS 0 slot j k l
      ∙ ap (λ s. get_or (pair_of order all s) j 0) is

  pub pairs_len : length (flat_map (pair_of order all) slots) ≡ 64
  pairs_len = four_each (pair_of order all) (pair_four) SLOTS 0

  -- 64 bytes that have those of each slot's pair at its place are the sixteen pairs
  pub pairs_are : (xs : List ℕ) → length xs ≡ 64 → ((slot j : ℕ) → slot < SLOTS
      → j < 4 → get_or xs (4 * slot + j) 0 ≡ get_or (pair_of order all slot) j 0)
      → xs ≡ flat_map (pair_of order all) slots
  pairs_are xs len h = ext_get_or 0 xs (flat_map (pair_of order all) slots)
      (len ∙ sym (pairs_len)) (λ i lt. let parts : 4 * (i / 4) + i % 4 ≡ i =
      omega arith in let slot : i / 4 < SLOTS = omega arith in
      let within : i % 4 < 4 = omega arith in
      rw parts at (h (i / 4) (i % 4) slot within ∙ sym (pairs_at (i / 4) (i % 4) slot within)))

-- what storing a word leaves
pub record IsPut (order : Order) (old new : List ℕ) (place v : ℕ) : Type 0 where
  pub first : get_or new place 0 ≡ get_or (word_bytes order v) 0 0
  pub second : get_or new (place + 1) 0 ≡ get_or (word_bytes order v) 1 0
  pub others : (p : ℕ) → p ≢ place → p ≢ place + 1 → get_or new p 0 ≡ get_or old p 0
  pub size : length new ≡ length old

-- a pair is two words
pair_put : (order : Order) (old mid new : List ℕ) (pair a b j : ℕ)
    → IsPut order old mid pair a → IsPut order mid new (pair + 2) b → j < 4
    → get_or new (pair + j) 0 ≡ get_or (word_bytes order a ++ word_bytes order b) j 0
pair_put order old mid new pair a b j h k m = grind arith

abbrev four_zeros : List ℕ
four_zeros = 0 ∷ 0 ∷ 0 ∷ 0 ∷ []

-- each of four zeros is 0, and so is what a read past them gives
zeros_at : (j : ℕ) → get_or four_zeros j 0 ≡ 0
zeros_at j = grind arith

-- the pairs of the first so many codes are stored, and the rest are zeros
pub record PairsSoFar (order : Order) (all : List Segment) (count : ℕ) (pairs : List ℕ)
    (block from : ℕ) : Type 0 where
  pub size : length pairs ≡ 64
  pub left : Left all from block (drop count all)
  pub stored : (slot j : ℕ) → slot < from → j < 4
      → get_or pairs (4 * slot + j) 0 ≡ get_or (pair_of order all slot) j 0
  pub empty : (slot j : ℕ) → from ≤ slot → slot < SLOTS → j < 4
      → get_or pairs (4 * slot + j) 0 ≡ 0

module _ (order : Order) (all : List Segment) where
  -- none is stored
  pub pairs_none : Ascend 0 all → PairsSoFar order all 0 (replicate 64 0) 1 0
  pairs_none h = record {
    size = length-replicate {A = ℕ} 64 0;
    left = left_start all h;
    stored = λ slot j lt l. absurd (omega arith);
    empty = λ slot j le lt l. get_or-replicate {A = ℕ} 64 (4 * slot + j) 0 0 (omega arith);
  }

  -- the pair of one code more
  pub pairs_more : (count : ℕ) (old mid new : List ℕ) (block from start : ℕ) (o : Segment)
      → drop count all ≡ o ∷ drop (count + 1) all → start ≡ block_of all o.slot
      → PairsSoFar order all count old block from → IsPut order old mid (4 * o.slot) start
      → IsPut order mid new (4 * o.slot + 2) (length o.code)
      → PairsSoFar order all (count + 1) new (block + blocks (length o.code)) (o.slot + 1)
  pairs_more count old mid new block from start o is start_is h put second =
      let rest = drop (count + 1) all in
      let here : Left all from block (o ∷ rest) =
      rw is at h.left in
      let first : IsPut order old mid (4 * o.slot) block =
      rw (start_is ∙ first_block all from block o rest here) at put in
      let low : from ≤ o.slot = here.ascend.0 in
      let same : (slot j : ℕ) → slot ≢ o.slot → j < 4
      → get_or new (4 * slot + j) 0 ≡ get_or old (4 * slot + j) 0 = λ slot j ne lt.
      second.others (4 * slot + j) (omega arith) (omega arith)
      ∙ first.others (4 * slot + j) (omega arith) (omega arith) in
      record {
        size = second.size ∙ (first.size ∙ h.size);
        left = left_more all from block o rest here;
        stored = λ slot j lt l.
            elim (cases_lt slot o.slot) [
              | inl below ↦ same slot j (omega arith) l ∙ elim (cases_lt slot from) [
                | inl before ↦ h.stored slot j before l
                | inr behind ↦ h.empty slot j behind (omega (arith, here.ascend.1)) l
                    ∙ sym (ap (λ (bs : List ℕ). get_or bs j 0)
                    (no_pair order all from block (o ∷ rest) o.slot slot here
                    (omega arith, here.ascend.1, here.ascend.2) behind below) ∙ zeros_at j)
              ]
              | inr above ↦
                  let it : slot ≡ o.slot = omega arith in
                  rw (← it) at (pair_put order old mid new (4 * o.slot) block (length o.code) j
                  first second l
                  ∙ sym (ap (λ (bs : List ℕ). get_or bs j 0)
                  (first_pair order all from block o rest here)))
            ];
        empty = λ slot j le lt l. same slot j (omega arith) l
            ∙ h.empty slot j (omega arith) lt l;
      }

  -- all pairs
  pub pairs_done : (count : ℕ) (pairs : List ℕ) (block from : ℕ)
      → PairsSoFar order all count pairs block from → length all ≤ count
      → pairs ≡ all_pairs order all
  unfolding all_pairs
  pairs_done count pairs block from h last =
      pairs_are order all pairs h.size (λ slot j k l.
      elim (cases_lt slot from) [
        | inl below ↦ h.stored slot j below l
        | inr behind ↦ h.empty slot j behind k l
            ∙ sym (ap (λ bs. get_or bs j 0) (ends slot behind) ∙ zeros_at j)
      ])
    where
      none_left : drop count all ≡ []
      none_left = drop_all count all last

      ends : (slot : ℕ)
          → from ≤ slot → pair_of order all slot ≡ 0 ∷ 0 ∷ 0 ∷ 0 ∷ []
      ends slot behind = no_pair order all from block (drop count all) (slot + 1) slot h.left
          (subst (λ os. Ascend (slot + 1) os) (sym none_left) tt) behind (omega arith)
