-- What is found by a number has it.
use Rattle.std.proofs.Common.{◌≡◌, ◌==◌, ℕ, List, [], ◌∷◌, Bool, true, false, Some, cond, refl, subst, arith}
use Rattle.std.specs.Prelude.{find}
use Rattle.std.proofs.lemmas.Bool.Decides.{nat_tests}
use Rattle.ps_words.specs.FaultText.{number_of}
use Rattle.ps_words.specs.declared.fault.Reason.{Reason}

same_number : (m n : ℕ) → (m == n) ≡ true → m ≡ n
same_number m n h = grind (arith, nat_tests)

pub has_number : (number : ℕ) (whys : List Reason) (why : Reason)
    → find (λ v. number_of v == number) whys ≡ Some why → number_of why ≡ number
has_number number [] why e = cc
has_number number (w ∷ ws) why e =
    at (λ k. has_number number ws why k) (number_of w == number) refl e
  where
    at : (find (λ v. number_of v == number) ws ≡ Some why → number_of why ≡ number)
        → (b : Bool) → (number_of w == number) ≡ b
        → cond b (Some w) (find (λ v. number_of v == number) ws) ≡ Some why
        → number_of why ≡ number
    at rest true h k = let same : w ≡ why = cc in
        subst (λ (v : Reason). number_of v ≡ number) same (same_number (number_of w) number h)
    at rest false h k = rest k
