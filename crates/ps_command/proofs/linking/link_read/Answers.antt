use Rattle.std.proofs.Common.{ap, inl, inr}
use Rattle.ps_output_files.proofs.Logs.{all_part}
use Rattle.ps_output_files.proofs.Unwritten.{fails_part}
use Rattle.std.proofs.lemmas.Result.{err_from_is_err_and}
use Rattle.ps_command.proofs.Failed.{not_output_written}
use Rattle.ps_command.proofs.Linked.{not_output}
use Rattle.ps_command.proofs.linking.link_read.Goals as goal

pub returns-in_ok-refuse-in-Err-Refused-clause-ok :
    goal.returns-in_ok-refuse-in-Err-Refused-clause-ok
returns-in_ok-refuse-in-Err-Refused-clause-ok g c =
    let refused = c.in-Err-Refused in
    let same = refused.ensures.err (not_output refused.fault refused.field-0 refused.field-0-is) in
    rw c.in_ok-refuse-in-Err-Refused.ensures.ended (
      refused.fault,
      rw refused.field-0-is at refused.ensures.why,
      rw (same, c.of-refusal.ensures, c.is_document-is_json.ensures) at c.in_ok-refuse-in-Err-Refused.ensures.text,
      rw (refused.ensures.untold, c.of-refusal.ensures)
          at c.in_ok-refuse-in-Err-Refused.ensures.told,
      rw refused.field-0-is at refused.ensures.left,
    )

pub returns-in-Err-Write-clause-part : goal.returns-in-Err-Write-clause-part
returns-in-Err-Write-clause-part g c =
    let left = rw c.in-Err-Write.field-0-is
    at c.in-Err-Write.ensures.left in
    inr (
      left.0,
      left.1,
      fails_part _ (g.R.CodeFiles.world c.args.rt.now)
          (g.R.CodeFiles.world c.link_files.new.rt) _ _ _ _ left.2,
    )

pub returns-in-Err-StandardOutput-clause-part : goal.returns-in-Err-StandardOutput-clause-part
returns-in-Err-StandardOutput-clause-part g c =
    let left = rw c.in-Err-StandardOutput.field-0-is at c.in-Err-StandardOutput.ensures.left in
    inr (left.0, left.1, all_part _ _ _ _ _ _ left.2)

pub returns-in_err-refuse-in-Err-Refused-clause-failed :
    goal.returns-in_err-refuse-in-Err-Refused-clause-failed
returns-in_err-refuse-in-Err-Refused-clause-failed g c =
    let refused = c.in-Err-Refused in
    let told = err_from_is_err_and c.from_residual.result
    c.from_residual.ensures.1 in
    let same = refused.ensures.err (not_output refused.fault refused.field-0 refused.field-0-is) in
    rw told.1 (λ three. inl (
      refused.fault,
      rw refused.field-0-is at refused.ensures.why,
      rw (same, c.of-refusal.ensures, c.is_document-is_json.ensures)
          at c.in_err-refuse-in-Err-Refused.ensures.cut,
      rw refused.field-0-is at refused.ensures.left,
    ))

pub returns-in-Err-Write-clause-failed : goal.returns-in-Err-Write-clause-failed
returns-in-Err-Write-clause-failed g c three =
    let is = c.in-Err-Write.field-0-is in
    let left = rw is at c.in-Err-Write.ensures.left in
    inr (
      left.0,
      left.1,
      inl (
        _,
        left.2,
        ap g.O.Write.contents (c.in-Err-Write.ensures.err (not_output_written _ _ is)),
      ),
    )

pub returns-in-Err-StandardOutput-clause-failed :
    goal.returns-in-Err-StandardOutput-clause-failed
returns-in-Err-StandardOutput-clause-failed g c three =
    let is = c.in-Err-StandardOutput.field-0-is in
    let left = rw is at c.in-Err-StandardOutput.ensures.left in
    inr (
      left.0,
      left.1,
      inr (
        left.2,
        c.in-Err-StandardOutput.ensures.placed is,
        c.in-Err-StandardOutput.ensures.prefix is,
      ),
    )
