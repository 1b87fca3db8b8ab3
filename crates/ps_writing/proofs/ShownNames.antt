-- A name as a line shows it, byte by byte.
use Rattle.ps_writing.proofs.Vocabulary.{◌≡◌, ℕ, List, [], ◌∷◌, length, get_or, refl, arith, shown_name, shown_byte}

-- a name of eight bytes, byte by byte
pub eight : (name : List ℕ) → length name ≡ 8 → shown_name name ≡ shown_byte
    (get_or name 0 0) ∷ shown_byte (get_or name 1 0) ∷ shown_byte (get_or name 2 0)
    ∷ shown_byte (get_or name 3 0) ∷ shown_byte (get_or name 4 0) ∷ shown_byte
    (get_or name 5 0) ∷ shown_byte (get_or name 6 0) ∷ shown_byte (get_or name 7 0) ∷ []
eight (a ∷ b ∷ c ∷ d ∷ e ∷ f ∷ g ∷ h ∷ []) long = refl
eight other long = absurd (omega (arith, long))
