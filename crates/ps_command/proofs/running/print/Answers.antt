use Rattle.std.proofs.Common.{inl, inr, map, refl}
use Rattle.std.proofs.lemmas.Result.{IfErr-weaker, IfOk-weaker, err_from_is_err_and}
use Rattle.ps_command.proofs.Failed.{named_fails}
use Rattle.ps_command.proofs.running.print.Goals as goal

pub returns-clause-ok : goal.returns-clause-ok
returns-clause-ok g c =
    let host = c.in_ok-bytes.bytes.host.items in
    let libs = map (λ library. library.items) c.in_ok-bytes.bytes.libraries.items in
    let read = c.in_ok-bytes.ensures in
    IfOk-weaker c.print_read.result _ _ (λ ended printed. elim printed [
      | inl text ↦ inl (host, libs, text.0, read.host, read.libraries, text.1, text.2)
      | inr refused ↦ inr (
        refused.0,
        host,
        libs,
        refused.1,
        read.host,
        read.libraries,
        refused.2,
        refused.3,
        refused.4,
      )
    ])
    c.print_read.ensures.ok

pub returns-in_err-bytes-clause-failed : goal.returns-in_err-bytes-clause-failed
returns-in_err-bytes-clause-failed g c =
    let told = err_from_is_err_and c.from_residual.result
    c.from_residual.ensures.1 in
    let unread = c.in_err-bytes.ensures.unread in
    rw told.1 (λ three. inl (unread (named_fails _ _ told.2 three), refl))

pub returns-clause-failed : goal.returns-clause-failed
returns-clause-failed g c =
    let host = c.in_ok-bytes.bytes.host.items in
    let libs = map (λ library. library.items) c.in_ok-bytes.bytes.libraries.items in
    let read = c.in_ok-bytes.ensures in
    IfErr-weaker c.print_read.result _ _
    (λ e cut three. inr (host, libs, read.host, read.libraries, cut three)) c.print_read.ensures.cut
