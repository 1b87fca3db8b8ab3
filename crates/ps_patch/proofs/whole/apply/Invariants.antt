use Rattle.std.proofs.Common.{◌≡◌, ℕ, drop}
use Rattle.ps_words.specs.Edits.{patched_byte}
use Rattle.ps_patch.proofs.whole.apply.Given as goal

-- the edits that are left make of the code so far what all make of the code
abbrev pub invariant-loop-edit : goal.invariant-loop-edit
invariant-loop-edit l = (p : ℕ) → patched_byte l.order l.code (drop l.edit-index l.edits) p
    ≡ patched_byte l.order l.fn.code l.edits p
