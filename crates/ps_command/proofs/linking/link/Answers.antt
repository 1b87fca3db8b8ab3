use Rattle.std.proofs.Common.{◌∙◌, ap, inl, inr, map, refl, rules}
use Rattle.std.proofs.lemmas.Result.{IfErr-weaker, IfOk-weaker, err_from_is_err_and}
use Rattle.ps_command.proofs.Failed.{named_fails}
use Rattle.ps_command.proofs.Linked.{fails_to_link, leaves_part, links_or_refuses}
use Rattle.ps_command.proofs.linking.link.Goals as goal

pub returns : goal.returns
returns g c =
    let world = g.R.CodeFiles.world in
    let now = c.link_read.new in
    let read = c.in_ok-bytes.ensures in
    let host = c.in_ok-bytes.bytes.host.items in
    let libs = map (λ library. library.items) c.in_ok-bytes.bytes.libraries.items in
    let paths = ap (map (λ path. path.now)) c.as_slice-2.ensures.value in
    let seen = ap (map (λ lib. lib.now)) c.as_slice-4.ensures.value ∙ c.in_ok-views.ensures in
    let whole = c.as_slice.ensures.value in
    let viewed = c.as_slice-3.ensures.value in
    let done = c.link_read.ensures in
    record {
      ok = λ rows names. IfOk-weaker c.link_read.result _ _ (λ ended linked. links_or_refuses world
          c.args.rt.now c.args.asked rows names now.rt host libs ended _ _ _ _ _ read.host
          read.libraries (rw (paths, seen, whole, viewed) at linked)) done.ok;
      part = λ rows names. IfErr-weaker c.link_read.result _ _ (λ e left. elim left [
        | inl same ↦ inl same
        | inr part ↦ inr (leaves_part world c.args.rt.now c.args.asked rows names now.rt host libs
            read.host read.libraries (rw (seen, whole, viewed) at part))
      ]) done.part;
      refused = search rules;
      memory = search rules;
      silent = search rules;
      err = search rules;
      failed = λ rows names. IfErr-weaker c.link_read.result _ _ (λ e failed three. fails_to_link
          world c.args.rt.now c.args.asked rows names now.rt host libs _ _ read.host read.libraries
          (rw (paths, seen, whole, viewed) at (failed three))) done.failed;
    }

pub returns-in_err-bytes-clause-failed : goal.returns-in_err-bytes-clause-failed
returns-in_err-bytes-clause-failed g c rows names =
    let told = err_from_is_err_and c.from_residual.result
    c.from_residual.ensures.1 in
    let unread = c.in_err-bytes.ensures.unread in
    rw told.1 (λ three. (
      c.args.asked.outputs.out.now,
      map (λ path. path.now) c.args.asked.inputs.libraries.items,
      names.files,
      inl (unread (named_fails _ _ told.2 three), refl, refl),
    ))
