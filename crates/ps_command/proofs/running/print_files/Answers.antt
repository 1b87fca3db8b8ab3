use Rattle.std.proofs.Common.{inl}
use Rattle.std.proofs.lemmas.Result.{err_from_is_err_and}
use Rattle.ps_command.proofs.running.print_files.Goals as goal

pub returns-in_err-print_text-in-Ok-clause-cut : goal.returns-in_err-print_text-in-Ok-clause-cut
returns-in_err-print_text-in-Ok-clause-cut g c =
    let told = err_from_is_err_and c.from_residual.result
    c.from_residual.ensures.1 in
    rw told.1 (λ three. inl (
      _,
      _,
      c.in-Ok.ensures.made c.args.strict,
      c.in_err-print_text-in-Ok.ensures.cut,
    ))
