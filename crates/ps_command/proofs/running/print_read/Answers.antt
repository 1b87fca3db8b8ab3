use Rattle.std.proofs.Common.{◌∙◌, ap, map}
use Rattle.std.proofs.lemmas.Result.{IfErr-weaker}
use Rattle.ps_command.proofs.running.print_read.Goals as goal

pub returns-clause-cut : goal.returns-clause-cut
returns-clause-cut g c =
    let paths = ap (map (λ path. path.now)) c.as_slice-2.ensures.value in
    let seen = ap (map (λ lib. lib.now)) c.as_slice-4.ensures.value ∙ c.in_ok-views.ensures in
    IfErr-weaker c.print_files.result _ _ (λ e cut three.
    rw (paths, seen, c.as_slice.ensures.value, c.as_slice-3.ensures.value) at (cut three))
    c.print_files.ensures.cut
