use Rattle.std.proofs.Common.{◌≡◌, ◌≤◌, ◌<◌, ◌+◌, ◌-◌, ◌++◌, ◌∙◌, ℕ, List, ap, drop, get_or, length, length-drop, replicate, take, arith}
use Rattle.std.specs.Prelude.{min}
use Rattle.std.proofs.Math.ListN.{get_or-eq_default}
use Rattle.std.proofs.lemmas.Bool.{ltb-false, ltb-true}
use Rattle.std.proofs.lemmas.List.{get_or-append_right, get_or-drop, get_or-replicate, get_or-take, get_or_append_left}
use Rattle.ps_patch.proofs.patcher.copy_block.Goals as goal

-- a place of the part of the code that is there
part_at : (code copied zeros : List ℕ) (from count n k : ℕ) → n ≡ count
    → copied ≡ take n (drop from code) → length copied ≡ count → k < count
    → get_or (copied ++ drop count zeros) k 0 ≡ get_or code (from + k) 0
part_at code copied zeros from count n k same part long below =
    grind (arith, get_or_append_left, get_or-take, get_or-drop)

-- a place after it
zero_at : (code copied zeros : List ℕ) (from count k : ℕ) → length copied ≡ count
    → count ≤ k → get_or zeros k 0 ≡ 0 → length code ≤ from + k
    → get_or (copied ++ drop count zeros) k 0 ≡ get_or code (from + k) 0
zero_at code copied zeros from count k long behind zero past =
    grind (arith, get_or-append_right, get_or-drop, get_or-eq_default)

block_at : (code copied zeros : List ℕ) (from count n k : ℕ) → from ≤ length code
    → count ≡ min (length code - from) 512 → n ≡ count
    → copied ≡ take n (drop from code) → length copied ≡ count → k < 512
    → get_or zeros k 0 ≡ 0 → get_or (copied ++ drop count zeros) k 0
    ≡ get_or code (from + k) 0
block_at code copied zeros from count n k within is same part long lt zero =
    grind (arith, part_at, ltb-true, ltb-false, zero_at)

pub returns-clause-block : goal.returns-clause-block
returns-clause-block c =
    let count = c.min-count.result in
    let part = c.copy_from_slice.ensures.after in
    let rest : length (drop c.args.from c.args.code.now) ≡ length c.args.code.now - c.args.from =
    length-drop c.args.from c.args.code.now in
    let long : length c.copy_from_slice.new.self ≡ count =
    ap (λ (xs : List ℕ). length xs) part ∙ omega (arith, rest, c.min-count.ensures) in
    λ k lt. block_at c.args.code.now c.copy_from_slice.new.self (replicate 512 0) c.args.from count
    (c.args.from + count - c.args.from) k c.requires c.min-count.ensures
    (omega arith) part long lt (get_or-replicate 512 k 0 0 lt)
