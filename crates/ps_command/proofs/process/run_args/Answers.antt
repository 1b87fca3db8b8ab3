use Rattle.std.proofs.Common.{◌∙◌, ap, map}
use Rattle.ps_command.proofs.process.run_args.Goals as goal

pub returns-in-Ok-clause-reported : goal.returns-in-Ok-clause-reported
returns-in-Ok-clause-reported g c one =
    let same = ap (map (λ arg. arg.now)) c.as_slice.ensures.value ∙ c.in-Ok.ensures in
    (rw same at c.run_with_files.ensures.reported) one

pub returns-in-Ok-clause-silent : goal.returns-in-Ok-clause-silent
returns-in-Ok-clause-silent g c zero =
    let same = ap (map (λ arg. arg.now)) c.as_slice.ensures.value ∙ c.in-Ok.ensures in
    (rw same at c.run_with_files.ensures.silent) zero
