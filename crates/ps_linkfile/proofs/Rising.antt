-- How the counts of a writer rise while a file is written.
use Rattle.ps_linkfile.proofs.Vocabulary.{All, blocks, MAX_CODE_LEN, Counts, NoneFailed, Rises, all_blocks, Ascend, rules, ◌≡◌, ℕ, ◌+◌, ◌*◌, ◌≤◌, List, ◌∷◌, length, drop, arith, Segment}
use Rattle.ps_linkfile.specs.declared.block_layout.TheConstants.{MAX_FILE_BLOCKS}
use Rattle.ps_linkfile.proofs.Blocks.{all_blocks-cons, few_codes, few_blocks}
use Rattle.ps_writing.proofs.Rising.{rises_then}

-- a file has few blocks
pub few_of_all : (os : List Segment) → Ascend 0 os
    → All (λ o. length o.code ≤ MAX_CODE_LEN) os → 1 + all_blocks os ≤ MAX_FILE_BLOCKS
few_of_all os slots sizes = omega (arith, few_blocks os sizes, few_codes 0 os (omega arith) slots)

-- n blocks are those of the first so many sources
pub record BlocksSoFar (os : List Segment) (count n : ℕ) (old new : Counts) : Type 0 where
  pub sum : n + all_blocks (drop count os) ≡ all_blocks os
  pub rises : Rises old new (512 * n) n
  pub none : NoneFailed old new

-- the blocks so far, those of one source more and those that are left are the blocks of all sources
next_blocks : (os : List Segment) (count n : ℕ) (o : Segment) → drop count os
    ≡ o ∷ drop (count + 1) os → n + all_blocks (drop count os) ≡ all_blocks os
    → n + blocks (length o.code) + all_blocks (drop (count + 1) os) ≡ all_blocks os
next_blocks os count n o at h = grind (arith, all_blocks-cons)

module _ (os : List Segment) (count n : ℕ) (o : Segment) (a b : Counts) where
  -- the blocks of one source more
  pub blocks_more : (c : Counts) → drop count os ≡ o ∷ drop (count + 1) os → BlocksSoFar
      os count n a b → Rises b c (512 * blocks (length o.code)) (blocks (length o.code))
      → NoneFailed b c → BlocksSoFar os (count + 1) (n + blocks (length o.code)) a c
  blocks_more c at h k none = search (rules, next_blocks, rises_then)
