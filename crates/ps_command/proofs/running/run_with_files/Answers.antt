use Rattle.std.proofs.Common.{◌∙◌, arith, inl, inr, sym}
use Rattle.ps_command.proofs.running.run_with_files.Goals as goal

pub returns-in-Ok-clause-printed : goal.returns-in-Ok-clause-printed
returns-in-Ok-clause-printed g c none zero =
    rw (sym c.status.ensures.value ∙ zero) at (c.in-Ok.ensures.ok none)

pub returns-in-Ok-clause-silent : goal.returns-in-Ok-clause-silent
returns-in-Ok-clause-silent g c zero =
    c.in-Ok.ensures.silent (sym c.status.ensures.value ∙ zero)

pub returns-in-Ok-clause-reported : goal.returns-in-Ok-clause-reported
returns-in-Ok-clause-reported g c one =
    let is = sym c.status.ensures.value ∙ one in
    rw is at (c.in-Ok.ensures.reported (λ zero. grind (arith, is, zero)))

pub returns-in-Ok-clause-unprinted : goal.returns-in-Ok-clause-unprinted
returns-in-Ok-clause-unprinted g c nonzero other third = elim c.status.ensures.known [
  | inl zero ↦ absurd (nonzero zero)
  | inr (inl one) ↦ absurd (other one)
  | inr (inr three) ↦ absurd (third three)
]

pub returns-in-Err-clause-misused : goal.returns-in-Err-clause-misused
returns-in-Err-clause-misused g c two = c.in-Err.ensures.misused (sym c.report.ensures.status ∙ two)

pub returns-in-Ok-clause-failed : goal.returns-in-Ok-clause-failed
returns-in-Ok-clause-failed g c three =
    let is = sym c.status.ensures.value ∙ three in
    inl (rw is at (c.in-Ok.ensures.reported (λ zero. grind (arith, is, zero))))

pub returns-in-Err-clause-failed : goal.returns-in-Err-clause-failed
returns-in-Err-clause-failed g c three =
    inr (c.in-Err.ensures.failed (sym c.report.ensures.status ∙ three))
