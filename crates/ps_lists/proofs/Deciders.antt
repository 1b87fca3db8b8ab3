-- Tests with the facts that they decide, as far as std lacks them.
use Rattle.std.proofs.Common.{◌≡◌, ◌<◌, ◌≤◌, ℕ, Bool, true, false, List, Some, None, Ok, Err, Option, Result, All, Decides, ap, refl, subst, inl, inr, arith}
use Rattle.std.specs.Prelude.{◌≢◌, ◌⊎◌, ◌&&◌, ◌||◌, ◌==◌, not, if◌then◌else◌, nat_le, nat_lt}
use Rattle.std.specs.List.{list_all, list_any, range_with_len}
use Rattle.std.specs.Option.{option_map_or}
use Rattle.std.specs.Result.{is_ok}
use Rattle.std.proofs.Math.Nat.{zero-add}
use Rattle.std.proofs.lemmas.Bool.{eqb-true, false≢true, le-leb, leb-true}
use Rattle.std.proofs.lemmas.Bool.Decides.{Decides-by_and, Decides-by_or, Decides-eqb, Decides-like, Decides-not, nat_tests}
use Rattle.std.proofs.lemmas.List.FromFn.{get_or-range_with_len, length-range_with_len}
use Rattle.std.proofs.lemmas.Option.{same_Some}

-- 1. tests
pub Decides-leb : (a b : ℕ) → Decides (nat_le a b) (a ≤ b)
Decides-leb a b = (leb-true a b, le-leb a b)

pub Decides-not_ltb : (a b : ℕ) → Decides (not (nat_lt a b)) (b ≤ a)
Decides-not_ltb a b = (λ e. grind (arith, nat_tests), λ h. grind (arith, nat_tests))

pub Decides-not_eqb : (a b : ℕ) → Decides (not (a == b)) (a ≢ b)
Decides-not_eqb a b = Decides-not _ (Decides-eqb a b)

pub Decides-true : (b : Bool) → Decides b (b ≡ true)
Decides-true b = (λ e. e, λ e. e)

pub Decides-false : (b : Bool) → Decides (not b) (b ≡ false)
Decides-false b = (λ e. grind arith, λ e. grind arith)

-- three in a row
pub Decides-and3 : {P Q R : Type 0} (x y z : Bool) → Decides x P → Decides y Q → Decides z R
    → Decides (x && y && z) (P × Q × R)
Decides-and3 true true true a b c = (λ e. (a.0 refl, b.0 refl, c.0 refl), λ h. refl)
Decides-and3 true true false a b c = (λ e. absurd (cc), λ h. c.1 h.2)
Decides-and3 true false z a b c = (λ e. absurd (cc), λ h. b.1 h.1)
Decides-and3 false y z a b c = (λ e. absurd (cc), λ h. a.1 h.0)

-- an implication
pub Decides-if : {P Q : Type 0} (x y : Bool) → Decides x P → Decides y Q
    → Decides (not x || y) (P → Q)
Decides-if true y d k = (λ e p. k.0 e, λ h. k.1 (h (d.0 refl)))
Decides-if false y d k = (λ e p. absurd (false≢true (d.1 p)), λ h. refl)

-- one of two, by a third
pub Decides-cond : {P Q R : Type 0} (x y z : Bool) → Decides x P → Decides y Q → Decides z R
    → Decides (if x then y else z) ((P × Q) ⊎ ((P → ⊥) × R))
Decides-cond true y z d k l = (
  λ e. inl (d.0 refl, k.0 e),
  λ h. elim h [
    | inl both ↦ k.1 both.1
    | inr other ↦ absurd (other.0 (d.0 refl))
  ],
)
Decides-cond false y z d k l = (
  λ e. inr (λ p. false≢true (d.1 p), l.0 e),
  λ h. elim h [
    | inl both ↦ absurd (false≢true (d.1 both.0))
    | inr other ↦ l.1 other.1
  ],
)

-- 2. options and results
pub Decides-holds : (o : Option ℕ) (n : ℕ)
    → Decides (option_map_or (λ b. b == n) o false) (o ≡ Some n)
Decides-holds None n = (λ e. absurd (cc), λ h. absurd (cc))
Decides-holds (Some b) n =
    (λ e. ap (λ (m : ℕ). Some m) (eqb-true b n e), λ h. (Decides-eqb b n).1 (same_Some b n h))

pub Decides-is_ok : {X E : Type 0} (r : Result X E) → Decides (is_ok r) ((x : X) × (r ≡ Ok x))
Decides-is_ok (Ok x) = (λ e. (x, refl), λ h. refl)
Decides-is_ok (Err why) = (λ e. absurd (cc), λ h. absurd (let e = h.1 in cc))

-- what passes on no `Err`, and on an `Ok` where something holds of the value
pub Decides-if_ok : {X E : Type 0} (p : Result X E → Bool) (P : X → Type 0)
    → ((x : X) → Decides (p (Ok x)) (P x)) → ((why : E) → p (Err why) ≡ false)
    → (r : Result X E) → Decides (p r) ((x : X) × (r ≡ Ok x) × P x)
Decides-if_ok p P each none (Ok x) = (
  λ e. (x, refl, (each x).0 e),
  λ h. (each x).1 (let same : h.0 ≡ x = let e = h.1 in cc in subst P same h.2),
)
Decides-if_ok p P each none (Err why) =
    (λ e. absurd (let other = none why in cc), λ h. absurd (let e = h.1 in cc))

-- 3. lists
pub Decides-list_all : {X : Type 0} (p : X → Bool) (P : X → Type 0)
    → ((x : X) → Decides (p x) (P x)) → (xs : List X) → Decides (list_all p xs) (All P xs)
Decides-list_all p P each xs = Decides-by_and p P (list_all p) each refl (λ _ _. refl) xs

module _ (p : ℕ → Bool) (P : ℕ → Type 0) (each : (k : ℕ) → Decides (p k) (P k)) where
  pub Decides-all_below : (n : ℕ)
      → Decides (list_all p (range_with_len 0 n)) ((k : ℕ) → k < n → P k)
  Decides-all_below n = Decides-like _
      (λ h k low. rw (get_or-range_with_len 0 n k 0 low, zero-add) at
      (h k 0 (rw length-range_with_len low)))
      (λ h k d low. let inside = rw length-range_with_len at low in
      rw (get_or-range_with_len 0 n k d inside, zero-add) (h k inside))
      (Decides-list_all p P each (range_with_len 0 n))

  pub Decides-some_below : (n : ℕ)
      → Decides (list_any p (range_with_len 0 n)) ((k : ℕ) × (k < n) × P k)
  Decides-some_below n = Decides-like _
      (λ h. let inside = rw length-range_with_len at h.1 in
      (h.0, inside, rw (get_or-range_with_len 0 n h.0 0 inside, zero-add) at (h.2 0)))
      (λ h. (
        h.0,
        rw length-range_with_len h.1,
        λ d.
            rw (get_or-range_with_len 0 n h.0 d h.1, zero-add) h.2,
      ))
      (Decides-by_or p P (list_any p) each refl (λ _ _. refl) (range_with_len 0 n))
