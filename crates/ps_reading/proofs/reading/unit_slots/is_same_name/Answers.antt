use Rattle.ps_reading.proofs.Vocabulary.{◌≡◌, ◌∙◌, ◌<◌, ◌==◌, ℕ, List, length, get_or, Bool, true, false, refl, sym, ap, rules, bytes_eq, ne_eqb, eq-eqb, bytes_eq-Decides}
use Rattle.std.specs.Int.{w64, from_le_bytes, to_le_bytes}
use Rattle.std.proofs.lemmas.Nat.{le_bytes_8}
use Rattle.ps_reading.proofs.reading.unit_slots.is_same_name.Goals as goal

-- words are equal where their bytes are
same_words : (xs ys : List ℕ) (m n : ℕ) → length xs ≡ 8 → length ys ≡ 8
    → ((i : ℕ) → get_or xs i 0 < 256) → ((i : ℕ) → get_or ys i 0 < 256)
    → m ≡ from_le_bytes w64 xs → n ≡ from_le_bytes w64 ys → (m == n) ≡ bytes_eq xs ys
same_words xs ys m n lx ly bx by_ mx ny = at (bytes_eq xs ys) refl
  where
    at : (b : Bool) → bytes_eq xs ys ≡ b → (m == n) ≡ b
    at true e = eq-eqb m n
        (mx ∙ (ap (from_le_bytes w64) ((bytes_eq-Decides xs ys).0 e) ∙ sym ny))
    at false e = ne_eqb m n (λ same.
        let equal = sym (le_bytes_8 xs m lx bx mx)
        ∙ (ap (to_le_bytes w64) same ∙ le_bytes_8 ys n ly by_ ny) in
        let no : true ≡ false = sym ((bytes_eq-Decides xs ys).1 equal) ∙ e in cc)

pub returns : goal.returns
returns c = search (rules, same_words)
