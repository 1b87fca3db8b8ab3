-- Rows of records.
use Rattle.ps_linkinfo.proofs.Vocabulary.{◌≡◌, ℕ, ◌+◌, ◌≤◌, List, [], ◌∷◌, ◌++◌, length, length-drop, drop, ◌∙◌, ap, zero-add, arith, drop-drop, sum_by-append, Order, AreSpelled, BeginsWith, size_of, used_by, Record}

pub used_cons : (x : Record) (rs : List Record) → used_by (x ∷ rs) ≡ size_of x + used_by rs
used_cons x rs = sum_by-append size_of (x ∷ []) rs
    ∙ ap (λ (n : ℕ). n + used_by rs) (zero-add (size_of x))

-- what is after the spellings of a record and of others
pub behind_cons : (x : Record) (rs : List Record) (bytes : List ℕ)
    → drop (used_by (x ∷ rs)) bytes ≡ drop (used_by rs) (drop (size_of x) bytes)
behind_cons x rs bytes = grind (arith, used_cons, drop-drop)

-- one more record
pub spelled_more : (order : Order) (bytes : List ℕ) (rs : List Record) (r : Record)
    → AreSpelled order bytes rs → BeginsWith order (drop (used_by rs) bytes) r
    → AreSpelled order bytes (rs ++ r ∷ [])
spelled_more order bytes [] r h b = (b, tt)
spelled_more order bytes (x ∷ rs) r h b =
    grind (arith, drop-drop, used_cons, spelled_more order (drop (size_of x) bytes) rs r h.1)

pub used_more : (rs : List Record) (r : Record)
    → used_by (rs ++ r ∷ []) ≡ used_by rs + size_of r
used_more rs r = grind (arith, sum_by-append, zero-add)

-- records that are spelled fit in the bytes
pub spelled_fit : (order : Order) (x : List ℕ) (rs : List Record) → AreSpelled order x rs
    → used_by rs ≤ length x
spelled_fit order x [] h = omega arith
spelled_fit order x (r ∷ rs) h =
    grind (arith, used_cons, length-drop, spelled_fit order (drop (size_of r) x) rs h.1)
