-- Tests of items, and what they decide.
use Rattle.ps_laws.proofs.Vocabulary.{◌⊎◌, if◌then◌else◌, not, Decides, slice_get, list_any, find, false≢true, Decides-or, Decides-like, SomeItem, rules, ◌≡◌, ℕ, zero, suc, ◌<◌, List, [], ◌∷◌, Some, None, Bool, true, false, refl, sym, ap, ◌∙◌, inl, inr, arith, is_none, Option}
pub use Rattle.ps_resolve.proofs.LookingBack.{of_test, any_of_take}

-- what is not None is there
pub is_there : {A : Type 0} (o : Option A) → (o ≡ None → ⊥) → (a : A) × (o ≡ Some a)
is_there o h = grind arith

-- the test of all items says whether P holds of one, where the test of each says whether P holds of
-- it
pub any_of_items : {A : Type 0} (test : A → Bool) (P : A → Type 0)
    → ((a : A) → Decides (test a) (P a)) → (items : List A)
    → Decides (list_any test items) (SomeItem items (λ i q. P q))
any_of_items test P d [] = (λ e. absurd (false≢true e), λ t. absurd (let e = t.2 in cc))
any_of_items {A} test P d (a ∷ items) =
    Decides-like _ (elim [ inl p ↦ (zero, a, refl, p) | inr t ↦ (suc t.0, t.1, t.2, t.3) ])
    (λ t. go t.0 t.1 t.2 t.3) (Decides-or _ _ (d a) (any_of_items test P d items))
  where
    go : (i : ℕ) (q : A) → slice_get (a ∷ items) i ≡ Some q → P q
        → P a ⊎ SomeItem items (λ i q. P q)
    go i q e p = grind arith

-- a search finds nothing just where no item passes its test
pub none_of_items : {A : Type 0} (test : A → Bool) (items : List A)
    → is_none (find test items) ≡ not (list_any test items)
none_of_items test [] = refl
none_of_items {A} test (a ∷ items) = grind (arith, none_of_items test items)

pub find_none : {A : Type 0} (test : A → Bool) (P : A → Type 0)
    → ((a : A) → Decides (test a) (P a)) → (items : List A) → find test items ≡ None
    → SomeItem items (λ i q. P q) → ⊥
find_none test P d items e t = false≢true (sym (ap not ((any_of_items test P d items).1 t))
    ∙ sym (none_of_items test items) ∙ ap is_none e)

-- what a search finds is the first item of which P holds
pub find_some : {A : Type 0} (test : A → Bool) (P : A → Type 0)
    → ((a : A) → Decides (test a) (P a)) → (items : List A) (x : A)
    → find test items ≡ Some x → SomeItem items (λ i q. (q ≡ x)
    × P q × ((j : ℕ) (e : A) → j < i → slice_get items j ≡ Some e → P e → ⊥))
find_some test P d [] x = λ e. absurd (cc)
find_some {A} test P d (a ∷ items) x = go (test a) (d a) (find_some test P d items x)
  where
    Found : List A → Type 0
    Found xs = SomeItem xs (λ i q. (q ≡ x) × P q
        × ((j : ℕ) (e : A) → j < i → slice_get xs j ≡ Some e → P e → ⊥))

    go : (b : Bool) → Decides b (P a) → (find test items ≡ Some x → Found items)
        → (if b then Some a else find test items) ≡ Some x → Found (a ∷ items)
    go true h rest e = search (rules, arith)
    go false h rest e = let r = rest e in (suc r.0, r.1, r.2, (r.3.0, r.3.1, lesser r.0 r.3.2))
      where
        lesser : (i : ℕ) → ((j : ℕ) (e : A) → j < i → slice_get items j ≡ Some e → P e
            → ⊥) → (j : ℕ) (e : A) → j < suc i → slice_get (a ∷ items) j ≡ Some e
            → P e → ⊥
        lesser i h1 h2 h3 h4 h5 = grind (arith, false≢true)
