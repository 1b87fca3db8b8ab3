use Rattle.std.proofs.lemmas.Result.{err_from_is_err_and}
use Rattle.ps_command.proofs.Failed.{usage_fails}
use Rattle.ps_command.proofs.running.carry_out.Goals as goal

pub returns-in_ok-perform-in-Task-clause-silent : goal.returns-in_ok-perform-in-Task-clause-silent
returns-in_ok-perform-in-Task-clause-silent g c =
    c.in_ok-perform-in-Task.ensures.silent _ (rw c.in-Task.is at c.in_ok-words.ensures.asked)

pub returns-in_err-words-clause-misused : goal.returns-in_err-words-clause-misused
returns-in_err-words-clause-misused g c =
    let told = err_from_is_err_and c.from_residual.result
    c.from_residual.ensures.1 in
    rw told.1 (λ two. usage_fails _ told.0 told.2.0 two c.in_err-words.ensures.wrong)
