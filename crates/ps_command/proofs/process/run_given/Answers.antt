use Rattle.std.proofs.Common.{inl, inr}
use Rattle.ps_command.proofs.process.run_given.Goals as goal

pub returns-in-Ok-clause-silent : goal.returns-in-Ok-clause-silent
returns-in-Ok-clause-silent g c zero = elim (c.run_args.ensures.silent zero) [
  | inl same ↦ inl same
  | inr told ↦ inr (_, told)
]

pub returns-in-Ok-clause-reported : goal.returns-in-Ok-clause-reported
returns-in-Ok-clause-reported g c one = (_, c.run_args.ensures.reported one)
