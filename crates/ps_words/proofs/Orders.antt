-- Edits that are apart: at most one covers a place, so the order in which they are listed does not
-- matter.
use Rattle.std.proofs.Common.{◌≡◌, ℕ, zero, suc, ◌+◌, ◌-◌, ◌<◌, ◌≤◌, List, [], ◌∷◌, slice_index, Option, Some, None, Bool, true, false, refl, sym, ◌∙◌, ap, arith}
use Rattle.std.specs.Prelude.{find, All, Contains, IsPermutation, IsTrue}
use Rattle.std.proofs.lemmas.Bool.Decides.{nat_tests}
use Rattle.std.proofs.lemmas.List.Sorted.{Contains-permutation, IsPermutation-sym}
use Rattle.ps_words.specs.Edits.{AreApart, covers, patched_byte, place_of, stored_bytes, width}
use Rattle.ps_words.specs.declared.order.Order.{Order}
use Rattle.ps_words.specs.declared.edit.Edit.{Edit}

first_of_list : {X : Type 0} (y : X) (ys : List X) → Contains (y ∷ ys) y
first_of_list y ys = (0, omega arith, refl)

further : {X : Type 0} (y : X) (ys : List X) (x : X) → Contains ys x → Contains (y ∷ ys) x
further y ys x h = (suc h.0, omega arith, h.2)

-- what is found is there, and passes
found : {X : Type 0} (q : X → Bool) (xs : List X) (x : X) → find q xs ≡ Some x
    → Contains xs x × (q x ≡ true)
found q [] x e = cc
found {X} q (y ∷ ys) x e = grind (arith, first_of_list, further, found q ys x)

-- where nothing is found, nothing that is there passes
missing : {X : Type 0} (q : X → Bool) (xs : List X) (x : X) → find q xs ≡ None
    → Contains xs x → q x ≡ false
missing q [] x e h = absurd (omega (arith, h.1))
missing {X} q (y ∷ ys) x e h = grind (arith, missing q ys x)

-- an edit covers the places from its first on, up to its end
covers_from : (e : Edit) (p : ℕ) → covers p e ≡ true → place_of e ≤ p
covers_from e p h = grind (arith, nat_tests)

pub covers_to : (e : Edit) (p : ℕ) → covers p e ≡ true → p < place_of e + width e
covers_to e p h = grind (arith, nat_tests)

-- edits that are apart from a place on begin there or after it
behind : (es : List Edit) (from : ℕ) (e : Edit) → AreApart from es → Contains es e
    → from ≤ place_of e
behind [] from e apart is = absurd (omega (arith, is.1))
behind (x ∷ es) from e apart is = grind (arith, behind es (place_of x + width x) e apart.1)

-- two of them that cover one place are one
only_one : (es : List Edit) (from p : ℕ) → AreApart from es → (a b : Edit) → Contains es a
    → Contains es b → covers p a ≡ true → covers p b ≡ true → a ≡ b
only_one [] from p apart a b is_a is_b on_a on_b = absurd (omega (arith, is_a.1))
only_one (x ∷ es) from p apart a b (zero, la, ea) (zero, lb, eb) on_a on_b = sym ea ∙ eb
only_one (x ∷ es) from p apart a b (zero, la, ea) (suc k, lb, eb) on_a on_b =
    grind (arith, covers_to, covers_from, behind es (place_of x + width x) b apart.1)
only_one (x ∷ es) from p apart a b (suc i, la, ea) (zero, lb, eb) on_a on_b =
    grind (arith, covers_to, covers_from, behind es (place_of x + width x) a apart.1)
only_one (x ∷ es) from p apart a b (suc i, la, ea) (suc k, lb, eb) on_a on_b =
    only_one es (place_of x + width x) p apart.1 a b (i, omega arith, ea) (k, omega arith, eb) on_a
    on_b

-- the edit that is found at a place is the one that covers it
found_is : (es : List Edit) (e : Edit) (p : ℕ) → AreApart 0 es → Contains es e
    → covers p e ≡ true → find (covers p) es ≡ Some e
found_is es e p apart is on = go (find (covers p) es) refl
  where
    go : (o : Option Edit) → find (covers p) es ≡ o → o ≡ Some e
    go None none = let off = missing (covers p) es e none is in cc
    go (Some x) some = let h = found (covers p) es x some in
        ap Some (only_one es 0 p apart x e h.0 is h.1 on)

-- a place that one of the edits covers has the byte that this edit stores there
pub stored_where_covered : (order : Order) (code : List ℕ) (es : List Edit) (e : Edit) (p : ℕ)
    → AreApart 0 es → Contains es e → IsTrue (covers p e)
    → patched_byte order code es p ≡ slice_index (stored_bytes order e) (p - place_of e)
stored_where_covered order code es e p apart is on = rw (found_is es e p apart is on)

-- a place that no edit covers keeps the code's own byte
pub kept_where_not_covered : (order : Order) (code : List ℕ) (es : List Edit) (p : ℕ)
    → All (λ e. ¬ IsTrue (covers p e)) es
    → patched_byte order code es p ≡ slice_index code p
kept_where_not_covered order code es p none = grind (arith, found)

-- the one that covers a place, of edits that are apart, is the same in whatever order they are
-- listed
same_find : (es fs : List Edit) (p : ℕ) → AreApart 0 es → IsPermutation es fs
    → find (covers p) es ≡ find (covers p) fs
same_find es fs p apart perm = go (find (covers p) fs) (find (covers p) es) refl refl
  where
    go : (o n : Option Edit) → find (covers p) fs ≡ o → find (covers p) es ≡ n → n ≡ o
    go None None e f = refl
    go None (Some x) e f =
        let h = found (covers p) es x f in
        let off = missing (covers p) fs x e (Contains-permutation es fs x perm h.0) in
        let on = h.1 in cc
    go (Some x) n e f = let h = found (covers p) fs x e in sym f ∙ found_is es x p apart
        (Contains-permutation fs es x (IsPermutation-sym es fs perm) h.0) h.1

-- the byte at a place after the edits is the same in whatever order they are listed
pub patched_alike : (order : Order) (code : List ℕ) (es fs : List Edit) (p : ℕ)
    → AreApart 0 es → IsPermutation es fs
    → patched_byte order code es p ≡ patched_byte order code fs p
patched_alike order code es fs p apart perm = rw (same_find es fs p apart perm)
