use Rattle.std.proofs.Common.{inl, inr, map}
use Rattle.std.proofs.lemmas.Result.{IfOk-weaker}
use Rattle.ps_command.proofs.running.check.Goals as goal

pub returns-in-Ok-clause-ok : goal.returns-in-Ok-clause-ok
returns-in-Ok-clause-ok g c =
    IfOk-weaker c.print_read.result _ _ (λ ended printed. elim printed [
      | inl text ↦ (
        c.in-Ok.bytes.host.items,
        map (λ library. library.items) c.in-Ok.bytes.libraries.items,
        text.0,
        c.in-Ok.ensures.host,
        c.in-Ok.ensures.libraries,
        text.1,
        text.2,
      )
      | inr refused ↦ absurd refused.2
    ])
    c.print_read.ensures.ok
