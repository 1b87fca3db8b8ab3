use Rattle.std.specs.Prelude.{◌+◌}
use Rattle.ps_linkinfo.proofs.Vocabulary.{arith, ℕ, List, [], ◌∷◌, ◌≡◌, length, numbered_records, refl, Record}
use Rattle.ps_linkinfo.proofs.Walks.{few}
use Rattle.ps_linkinfo.proofs.information.LinkInformation.len.Goals as goal

numbered_len : (i : ℕ) (rs : List Record) → length (numbered_records i rs) ≡ length rs
numbered_len i [] = refl
numbered_len i (r ∷ rs) = omega (arith, numbered_len (i + 1) rs)

pub loop-init : goal.loop-init
loop-init c = grind (arith, numbered_len)

pub overflow_add-len : goal.overflow_add-len
overflow_add-len c = grind (arith, few)
