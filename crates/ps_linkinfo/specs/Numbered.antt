-- Records with their indices.
use Rattle.std.specs.Prelude.{ℕ, ◌+◌, List, [], ◌∷◌}
use Rattle.ps_linkinfo.specs.declared.record.LinkRecord.{LinkRecord as Record}

-- the records beside their indices, of which the first is `i`
abbrev pub numbered_records : ℕ → List Record → List (ℕ × Record)
numbered_records i [] = []
numbered_records i (r ∷ rs) = (i, r) ∷ numbered_records (i + 1) rs
