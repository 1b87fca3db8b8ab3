-- A verdict that is right says 1 exactly where the files are refused; if it is to be strict, where
-- there is a warning too.
use Rattle.std.proofs.Common.{◌≡◌, ◌↔◌, ◌⊎◌, ◌<◌, ◌==◌, ℕ, List, false, true, inl, inr, refl, arith}
use Rattle.std.proofs.lemmas.Bool.{cases_Bool}
use Rattle.std.proofs.lemmas.Bool.Decides.{nat_tests}
use Rattle.ps_resolve.specs.Standing.{NoneStands}
use Rattle.ps_report.specs.Verdicts.{IsRefused, IsVerdict, check_status}
use Rattle.ps_report.specs.declared.verdict.Verdict.{Verdict}
use Rattle.ps_report.specs.declared.verdict.Verdict.TheVariants.{Links, Refused}

zero_is_not_one : {P : Type 0} → ◌≡◌ {A = ℕ} 0 1 → P
zero_is_not_one e = absurd (omega (arith, e))

module _ (host : List ℕ) (libs : List (List ℕ)) (warnings : ℕ) where
  pub refused_or_not : (verdict : Verdict) → IsVerdict host libs verdict
      → (check_status false warnings verdict ≡ 1) ↔ IsRefused host libs
  refused_or_not (Links s) right = (
    λ one. zero_is_not_one one,
    λ refused. absurd (right.0 refused.1.step refused.0 refused.1.stands),
  )
  refused_or_not (Refused f) right = (λ _. (f, right.0), λ _. refl)

  pub linked_or_not : (verdict : Verdict) → IsVerdict host libs verdict
      → (check_status false warnings verdict ≡ 0) ↔ NoneStands host libs
  linked_or_not (Links s) right = (λ _. right.0, λ _. refl)
  linked_or_not (Refused f) right =
      (λ zero. absurd (omega (arith, zero)), λ none. absurd (none right.0.step f right.0.stands))

  pub warned_or_refused : {Warned : Type 0} (verdict : Verdict) → IsVerdict host libs verdict
      → (0 < warnings) ↔ Warned
      → (check_status true warnings verdict ≡ 1) ↔ (Warned ⊎ IsRefused host libs)
  warned_or_refused (Links s) right counted = elim (cases_Bool (warnings == 0)) [
    | inl none ↦ rw none (
      λ one. zero_is_not_one one,
      λ either. elim either [
        | inl has ↦ (let some = counted.1 has in absurd (grind (arith, nat_tests)))
        | inr refused ↦ absurd (right.0 refused.1.step refused.0 refused.1.stands)
      ],
    )
    | inr some ↦ rw some (λ _. inl (counted.0 (grind (arith, nat_tests))), λ _. refl)
  ]
  warned_or_refused (Refused f) right counted = (λ _. inr (f, right.0), λ _. refl)
