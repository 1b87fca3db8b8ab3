-- Tests of a list of numbers.
use Rattle.std.proofs.Common.{◌≡◌, ℕ, zero, suc, ◌+◌, ◌<◌, ◌≤◌, ◌-◌, Bool, true, false, true≢false, refl, sym, ◌∙◌, subst, arith, add-zero}
use Rattle.std.specs.List.{list_all, list_any, range_with_len}

-- where each number of a list passes a test, all pass
pub all_from : (p : ℕ → Bool) (a n : ℕ) → ((k : ℕ) → k < n → p (a + k) ≡ true)
    → list_all p (range_with_len a n) ≡ true
all_from p a zero h = refl
all_from p a (suc n) h =
    let first : p a ≡ true = subst (λ (m : ℕ). p m ≡ true) (add-zero a) (h 0 (omega arith))
    in
    rw first (all_from p (a + 1) n (λ k lt. subst (λ (m : ℕ). p m ≡ true)
    (let e : a + (k + 1) ≡ (a + 1) + k = omega arith in e) (h (k + 1) (omega arith))))

-- where one number of a list does not pass a test, not all pass
pub not_all : (p : ℕ → Bool) (a n i j : ℕ) → i < n → j ≡ a + i → p j ≡ false
    → list_all p (range_with_len a n) ≡ false
not_all p a zero i j lt e h = absurd (omega arith)
not_all p a (suc n) zero j lt e h = grind arith
not_all p a (suc n) (suc i) j lt e h = grind (arith, not_all p (a + 1) n i j)

-- each number of the list passes
pub all_at : (p : ℕ → Bool) (n : ℕ) → list_all p (range_with_len 1 n) ≡ true → (j : ℕ)
    → 1 ≤ j → j ≤ n → p j ≡ true
all_at p n all j low high = at (p j) refl
  where
    at : (b : Bool) → p j ≡ b → p j ≡ true
    at true e = e
    at false e = absurd (true≢false (sym all
        ∙ not_all p 1 n (j - 1) j (omega arith) (omega arith) e))

-- where no number of a list passes a test, none does
pub none_from : (p : ℕ → Bool) (a n : ℕ) → ((k : ℕ) → k < n → p (a + k) ≡ false)
    → list_any p (range_with_len a n) ≡ false
none_from p a zero h = refl
none_from p a (suc n) h =
    let first : p a ≡ false = subst (λ (m : ℕ). p m ≡ false) (add-zero a) (h 0 (omega arith))
    in
    rw first (none_from p (a + 1) n (λ k lt. subst (λ (m : ℕ). p m ≡ false)
    (let e : a + (k + 1) ≡ (a + 1) + k = omega arith in e) (h (k + 1) (omega arith))))

-- where one number of a list passes a test, some do
pub some_at : (p : ℕ → Bool) (a n i j : ℕ) → i < n → j ≡ a + i → p j ≡ true
    → list_any p (range_with_len a n) ≡ true
some_at p a zero i j lt e h = absurd (omega arith)
some_at p a (suc n) zero j lt e h = grind arith
some_at p a (suc n) (suc i) j lt e h = grind (arith, some_at p (a + 1) n i j)
