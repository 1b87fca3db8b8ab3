-- What is left of the units that records use.
use Rattle.ps_listing.proofs.Vocabulary.{◌≡◌, ℕ, ◌+◌, List, [], ◌∷◌, ◌++◌, Bool, refl, ap, Record}
use Rattle.ps_linkinfo.specs.Numbered.{numbered_records}
use Rattle.ps_writing.specs.declared.rows.Form.{Form}
use Rattle.ps_listing.specs.ListText.{is_first_after, use_of, uses_from}

-- the units that records beside their indices use
abbrev pub numbered_uses : Form → Bool → List (ℕ × Record) → List ℕ
numbered_uses form first [] = []
numbered_uses form first (r ∷ rs) = use_of form first r.1.name r.1.body
    ++ numbered_uses form (is_first_after first r.1.body) rs

pub numbered_are : (form : Form) (first : Bool) (i : ℕ) (rs : List Record)
    → numbered_uses form first (numbered_records i rs) ≡ uses_from form first rs
numbered_are form first i [] = refl
numbered_are form first i (r ∷ rs) = ap (λ (bs : List ℕ). use_of form first r.name r.body ++ bs)
    (numbered_are form (is_first_after first r.body) (i + 1) rs)
