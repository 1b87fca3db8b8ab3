-- How many bytes the records take that can be read.
use Rattle.std.proofs.Common.{◌≡◌, ◌∙◌, ◌+◌, ◌∷◌, [], ℕ, List, refl, sym, ap}
use Rattle.ps_linkinfo.specs.Numbered.{numbered_records}
use Rattle.ps_linkinfo.specs.Records.{size_of, used_by}
use Rattle.ps_linkinfo.specs.declared.record.LinkRecord.{LinkRecord as Record}
use Rattle.ps_linkinfo.proofs.Spelled.{used_cons}

-- the bytes of records that have numbers
abbrev pub used_by_numbered : List (ℕ × Record) → ℕ
used_by_numbered [] = 0
used_by_numbered (r ∷ rs) = size_of r.1 + used_by_numbered rs

pub numbered_use : (i : ℕ) (rs : List Record) → used_by_numbered
    (numbered_records i rs) ≡ used_by rs
numbered_use i [] = refl
numbered_use i (r ∷ rs) = ap (λ (n : ℕ). size_of r + n) (numbered_use (i + 1) rs)
    ∙ sym (used_cons r rs)
