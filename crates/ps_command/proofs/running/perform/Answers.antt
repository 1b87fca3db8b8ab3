use Rattle.std.proofs.Common.{◌∙◌, [], ap, map, sym, inl, inr}
use Rattle.std.proofs.lemmas.Result.{IfErr-weaker, IfOk-weaker, err_from_is_err_and}
use Rattle.ps_command.proofs.running.perform.Goals as goal

pub returns-in-Link-clause-ok : goal.returns-in-Link-clause-ok
returns-in-Link-clause-ok g c named is =
    let task = rw c.in-Link.is at is in
    IfOk-weaker c.link.result _ _ (λ ended printed. (
      task.0,
      c.in-Link.asked.inputs.host.now,
      inl (task.1, task.2.host, printed),
    ))
    (c.link.ensures.ok task.0 task.2)

pub returns-in-Map-clause-ok : goal.returns-in-Map-clause-ok
returns-in-Map-clause-ok g c named is =
    let task = rw c.in-Map.is at is in
    IfOk-weaker c.print.result _ _ (λ ended printed. (
      task.0,
      c.in-Map.inputs.host.now,
      inr (inl (
        task.1,
        task.2.0,
        rw (c.map_kind.ensures, task.2.1, task.3, task.4) at printed,
      )),
    ))
    c.print.ensures.ok

pub returns-in-Show-clause-ok : goal.returns-in-Show-clause-ok
returns-in-Show-clause-ok g c named is =
    let task = rw c.in-Show.is at is in
    IfOk-weaker c.print-in-Show.result _ _ (λ ended printed. (
      task.0,
      c.in-Show.file.now,
      inr (inr (inl (task.1, task.2, rw (c.form_of.ensures, task.3, c.new.ensures.items) at printed))),
    ))
    c.print-in-Show.ensures.ok

pub returns-then-unit-clause-ok : goal.returns-then-unit-clause-ok
returns-then-unit-clause-ok g c named is =
    let task = rw c.in-Check.is at is in
    IfOk-weaker c.check_units.result _ _ (λ status printed. (
      task.0,
      c.in-Check.inputs.host.now,
      inr (inr (inr (inl (
        task.1,
        task.2.0,
        rw (sym task.4 ∙ c.if-unit.true)
            (rw (c.units_form.ensures, task.2.1, task.5) at printed),
      )))),
    ))
    c.check_units.ensures.ok

pub returns-else-unit-clause-ok : goal.returns-else-unit-clause-ok
returns-else-unit-clause-ok g c named is =
    let task = rw c.in-Check.is at is in
    IfOk-weaker c.check.result _ _ (λ status printed. (
      task.0,
      c.in-Check.inputs.host.now,
      inr (inr (inr (inl (
        task.1,
        task.2.0,
        rw (sym task.4 ∙ c.if-unit.false)
            (rw (c.form_of-in-Check.ensures, task.2.1, task.3, task.5) at printed),
      )))),
    ))
    c.check.ensures.ok

pub returns-in_ok-print_lists-in-List-clause-ok : goal.returns-in_ok-print_lists-in-List-clause-ok
returns-in_ok-print_lists-in-List-clause-ok g c named is =
    let task = rw c.in-List.is at is in
    let paths = ap (map (λ path. path.now)) c.as_slice.ensures.value ∙ task.2 in
    let printed = c.in_ok-print_lists-in-List.ensures.ok in (
      task.0,
      [],
      inr (inr (inr (inr
          (task.1, rw (c.list_form.ensures, task.3, paths) at printed)))),
    )

pub returns-in-Link-clause-part : goal.returns-in-Link-clause-part
returns-in-Link-clause-part g c named is =
    let task = rw c.in-Link.is at is in
    IfErr-weaker c.link.result _ _ (λ e left. elim left [
      | inl same ↦ inl same
      | inr part ↦ inr
          (task.0, c.in-Link.asked.inputs.host.now, task.1, task.2.host, part)
    ])
    (c.link.ensures.part task.0 task.2)

pub returns-in-Link-clause-failed : goal.returns-in-Link-clause-failed
returns-in-Link-clause-failed g c named is =
    let task = rw c.in-Link.is at is in
    IfErr-weaker c.link.result _ _ (λ e failed three. (
      task.0,
      c.in-Link.asked.inputs.host.now,
      inl (task.1, task.2.host, failed three),
    ))
    (c.link.ensures.failed task.0 task.2)

pub returns-in-Map-clause-failed : goal.returns-in-Map-clause-failed
returns-in-Map-clause-failed g c named is =
    let task = rw c.in-Map.is at is in
    IfErr-weaker c.print.result _ _ (λ e failed three. (
      task.0,
      c.in-Map.inputs.host.now,
      inr (inl (
        task.1,
        task.2.0,
        rw (c.map_kind.ensures, task.2.1, task.3, task.4) at (failed three),
      )),
    ))
    c.print.ensures.failed

pub returns-in-Show-clause-failed : goal.returns-in-Show-clause-failed
returns-in-Show-clause-failed g c named is =
    let task = rw c.in-Show.is at is in
    IfErr-weaker c.print-in-Show.result _ _ (λ e failed three. (
      task.0,
      c.in-Show.file.now,
      inr (inr (inl (
        task.1,
        task.2,
        rw (c.form_of.ensures, task.3, c.new.ensures.items) at (failed three),
      ))),
    ))
    c.print-in-Show.ensures.failed

pub returns-then-unit-clause-failed : goal.returns-then-unit-clause-failed
returns-then-unit-clause-failed g c named is =
    let task = rw c.in-Check.is at is in
    IfErr-weaker c.check_units.result _ _ (λ e cut three. (
      task.0,
      c.in-Check.inputs.host.now,
      inr (inr (inr (inl (
        task.1,
        task.2.0,
        rw (sym task.4 ∙ c.if-unit.true) (cut three),
      )))),
    ))
    c.check_units.ensures.cut

pub returns-else-unit-clause-failed : goal.returns-else-unit-clause-failed
returns-else-unit-clause-failed g c named is =
    let task = rw c.in-Check.is at is in
    IfErr-weaker c.check.result _ _ (λ e failed three. (
      task.0,
      c.in-Check.inputs.host.now,
      inr (inr (inr (inl (
        task.1,
        task.2.0,
        rw (sym task.4 ∙ c.if-unit.false)
            (rw (c.form_of-in-Check.ensures, task.2.1, task.3, task.5) at (failed three)),
      )))),
    ))
    c.check.ensures.failed

pub returns-in_err-print_lists-in-List-clause-failed :
    goal.returns-in_err-print_lists-in-List-clause-failed
returns-in_err-print_lists-in-List-clause-failed g c named is =
    let task = rw c.in-List.is at is in
    let told = err_from_is_err_and c.from_residual.result
    c.from_residual.ensures.1 in
    let took = c.in_err-print_lists-in-List.ensures.took in
    rw told.1 (λ three. (task.0, [], inr (inr (inr (inr (task.1, took))))))
