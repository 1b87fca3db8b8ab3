use Rattle.std.proofs.Common.{sym, ◌∙◌, refl}
use Rattle.std.proofs.lemmas.Bool.{false≢true}
use Rattle.std.proofs.lemmas.Result.{err_from_is_err_and}
use Rattle.ps_c_texts.proofs.PutTexts.{named_lacks, named_lengths, named_names, named_put, named_unnamed, named_unput}
use Rattle.ps_c_texts.proofs.printing.named.Goals as goal

pub returns-then-not-have_lengths-clause-not_done :
    goal.returns-then-not-have_lengths-clause-not_done
returns-then-not-have_lengths-clause-not_done g c = named_lengths _ _ _ _ _ _ c.requires _
    (λ right. false≢true (sym c.if-not-have_lengths.true ∙ c.have_lengths.ensures.1 right))

pub returns-then-not-are_utf8-clause-not_done : goal.returns-then-not-are_utf8-clause-not_done
returns-then-not-are_utf8-clause-not_done g c = named_names _ _ _ _ _ _ c.requires _
    (c.have_lengths.ensures.0 c.if-not-have_lengths.false)
    (λ all. false≢true (sym c.if-not-are_utf8.true ∙ c.are_utf8.ensures.1 all))

pub returns-in_err-libs-clause-not_done : goal.returns-in_err-libs-clause-not_done
returns-in_err-libs-clause-not_done g c =
    let told = err_from_is_err_and c.from_residual.result c.from_residual.ensures.1 in
    rw (told.1, told.2) (named_lacks _ _ _ _ _ _ c.requires
    (c.have_lengths.ensures.0 c.if-not-have_lengths.false)
    (c.are_utf8.ensures.0 c.if-not-are_utf8.false) _)

pub returns-in_err-names-clause-not_done : goal.returns-in_err-names-clause-not_done
returns-in_err-names-clause-not_done g c =
    let told = err_from_is_err_and c.from_residual-in_err-names.result
    c.from_residual-in_err-names.ensures.1 in
    rw (told.1, told.2) (named_unnamed _ _ _ _ _ _ c.requires
    (c.have_lengths.ensures.0 c.if-not-have_lengths.false)
    (c.are_utf8.ensures.0 c.if-not-are_utf8.false) _ _ c.in_err-names.ensures.err)

pub returns-clause-printed : goal.returns-clause-printed
returns-clause-printed g c = named_put _ _ _ _ _ _ c.requires
    (c.have_lengths.ensures.0 c.if-not-have_lengths.false)
    (c.are_utf8.ensures.0 c.if-not-are_utf8.false) _ _ _ _ _ refl refl
    (rw (
      c.as_slice.ensures.value,
      c.as_slice-2.ensures,
      c.in_ok-libs.ensures.ok,
      c.in_ok-names.ensures.cut,
    ) at c.in_ok-put_named.ensures.put)

pub returns-in_err-put_named-clause-not_done : goal.returns-in_err-put_named-clause-not_done
returns-in_err-put_named-clause-not_done g c =
    let told = err_from_is_err_and c.from_residual-in_err-put_named.result
    c.from_residual-in_err-put_named.ensures.1 in
    rw (told.1, told.2) (named_unput _ _ _ _ _ _ c.requires
    (c.have_lengths.ensures.0 c.if-not-have_lengths.false)
    (c.are_utf8.ensures.0 c.if-not-are_utf8.false) _ _ _ _ refl refl
    (rw (
      c.as_slice.ensures.value,
      c.as_slice-2.ensures,
      c.in_ok-libs.ensures.ok,
      c.in_ok-names.ensures.cut,
    ) at c.in_err-put_named.ensures.unput))
