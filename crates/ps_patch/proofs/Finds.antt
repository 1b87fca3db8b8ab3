-- Which edit covers a place, of edits that are apart.
use Rattle.std.proofs.Common.{◌≡◌, ℕ, zero, suc, ◌+◌, ◌≤◌, ◌<◌, List, [], ◌∷◌, length, drop, get_or, None, All, refl, sym, ◌∙◌, arith, false}
use Rattle.std.proofs.lemmas.Bool.Decides.{nat_tests}
use Rattle.std.proofs.lemmas.List.Elements.{All-head, All-tail}
use Rattle.std.proofs.lemmas.List.{drop_more}
use Rattle.std.specs.Prelude.{find}
use Rattle.ps_words.proofs.Orders.{covers_to}
use Rattle.ps_words.specs.Edits.{AreApart, IsInside, covers, place_of, width}
use Rattle.ps_words.specs.declared.order.Order.{Order}
use Rattle.ps_words.specs.declared.edit.Edit.{Edit}
use Rattle.ps_patch.specs.Patched.{patched_by, patched_from}

not_before : (e : Edit) (p : ℕ) → p < place_of e → covers p e ≡ false
not_before e p h = grind (arith, nat_tests)

not_behind : (e : Edit) (p : ℕ) → place_of e + width e ≤ p → covers p e ≡ false
not_behind e p h = grind (arith, nat_tests)

-- nothing covers a place before all edits
find_none : (es : List Edit) (from p : ℕ) → AreApart from es → p < from
    → find (covers p) es ≡ None
find_none [] from p h k = refl
find_none (e ∷ es) from p h k =
    grind (arith, not_before, find_none es (place_of e + width e) p h.1)

-- an edit that ends before a place is passed over
find_next : (e : Edit) (es : List Edit) (p : ℕ) → place_of e + width e ≤ p
    → find (covers p) (e ∷ es) ≡ find (covers p) es
find_next e es p h = rw (not_behind e p h)

-- the first edit, once it is stored, need not be looked at again
patched_one : (order : Order) (old new : ℕ) (e : Edit) (es : List Edit) (from p : ℕ)
    → AreApart from (e ∷ es) → new ≡ patched_by order e p old
    → patched_from order es p new ≡ patched_from order (e ∷ es) p old
patched_one order old new e es from p apart is = grind (arith, find_none, covers_to)

apart_lower : (es : List Edit) (from : ℕ) → AreApart from es → AreApart 0 es
apart_lower [] from h = tt
apart_lower (e ∷ es) from h = (omega arith, h.1)

-- edits that are apart from a place on are so from any place before it
apart_drop : (es : List Edit) (at from : ℕ) → AreApart from es → AreApart 0 (drop at es)
apart_drop es zero from h = apart_lower es from h
apart_drop [] (suc at) from h = tt
apart_drop (e ∷ es) (suc at) from h = apart_drop es at (place_of e + width e) h.1

apart_one : (es : List Edit) (at : ℕ) (d : Edit) → at < length es → AreApart 0 es
    → AreApart 0 (get_or es at d ∷ drop (at + 1) es)
apart_one es at d h apart = rw (drop_more es at d h) at (apart_drop es at 0 apart)

-- the edit at `at`, once it is stored, need not be looked at again
pub patched_step : (order : Order) (old new : ℕ) (es : List Edit) (at : ℕ) (d : Edit) (p : ℕ)
    → at < length es → AreApart 0 es → new ≡ patched_by order (get_or es at d) p old
    → patched_from order (drop (at + 1) es) p new ≡ patched_from order (drop at es) p old
patched_step order old new es at d p h apart is =
    rw (drop_more es at d h) (patched_one order old new (get_or es at d) (drop (at + 1) es) 0 p
    (apart_one es at d h apart) is)

-- nor need those after it, at a place before its end
pub patched_last : (order : Order) (old new : ℕ) (es : List Edit) (at : ℕ) (d : Edit) (p : ℕ)
    → at < length es → AreApart 0 es → p < place_of (get_or es at d) + width (get_or es at d)
    → new ≡ patched_by order (get_or es at d) p old
    → new ≡ patched_from order (drop at es) p old
patched_last order old new es at d p h apart lt is =
    let e = get_or es at d in
    let none : find (covers p) (drop (at + 1) es) ≡ None =
    find_none (drop (at + 1) es) (place_of e + width e) p (apart_one es at d h apart).1 lt in
    let step = patched_step order old new es at d p h apart is in
    let same : patched_from order (drop (at + 1) es) p new ≡ new = rw none in
    sym same ∙ step

-- nor need it be at a place after its end
pub find_step : (es : List Edit) (at : ℕ) (d : Edit) (p : ℕ) → at < length es
    → place_of (get_or es at d) + width (get_or es at d) ≤ p
    → find (covers p) (drop at es) ≡ find (covers p) (drop (at + 1) es)
find_step es at d p h le = grind (arith, drop_more, find_next)

-- edits inside a code cover nothing past its end
pub find_past : (n : ℕ) (es : List Edit) (p : ℕ) → All (IsInside n) es → n ≤ p
    → find (covers p) es ≡ None
find_past n [] p all le = refl
find_past n (e ∷ es) p all le =
    let here = All-head (IsInside n) e es all in
    rw (not_behind e p (omega (arith, here.within)))
    (find_past n es p (All-tail (IsInside n) e es all) le)
