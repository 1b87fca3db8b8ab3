use Rattle.std.proofs.Common.{refl}
use Rattle.std.proofs.lemmas.Result.{on_ok_weaker}
use Rattle.ps_output_files.proofs.Outcomes.{written}
use Rattle.ps_output_files.proofs.linking.print_at.Goals as goal

pub returns-in-Nowhere-clause-printed : goal.returns-in-Nowhere-clause-printed
returns-in-Nowhere-clause-printed g c = rw c.in-Nowhere.is (refl, refl)

pub returns-in-Output-clause-printed : goal.returns-in-Output-clause-printed
returns-in-Output-clause-printed g c = rw c.in-Output.is
    (on_ok_weaker c.write_all_of.result (λ all. (all, refl)) c.write_all_of.ensures.all)

pub returns-in-Error-clause-printed : goal.returns-in-Error-clause-printed
returns-in-Error-clause-printed g c = rw c.in-Error.is (
  refl,
  written c.write_all_of-in-Error.result _ _ _
      c.write_all_of-in-Error.ensures.all c.write_all_of-in-Error.ensures.prefix,
)

pub returns-in-Error-clause-silent : goal.returns-in-Error-clause-silent
returns-in-Error-clause-silent g c other = absurd (other c.in-Error.is)
