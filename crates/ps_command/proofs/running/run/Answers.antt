use Rattle.std.proofs.Common.{inl, inr}
use Rattle.ps_command.proofs.Linked.{prints_unknown}
use Rattle.ps_command.proofs.running.run.Goals as goal

pub returns-clause-printed : goal.returns-clause-printed
returns-clause-printed g c none zero = prints_unknown _ _ _ c.run_with_files.new.files c.args.rt.now _ _ _ _ _
    (c.run_with_files.ensures.printed none zero)

pub returns-clause-reported : goal.returns-clause-reported
returns-clause-reported g c one = prints_unknown _ _ _ c.run_with_files.new.files c.args.rt.now _ _ _ _ _
    (c.run_with_files.ensures.reported one)

pub returns-clause-failed : goal.returns-clause-failed
returns-clause-failed g c three = elim (c.run_with_files.ensures.failed three) [
  | inl printed ↦ inl
      (prints_unknown _ _ _ c.run_with_files.new.files c.args.rt.now _ _ _ _ _ printed)
  | inr failed ↦ inr failed
]
