use Rattle.std.proofs.Common.{◌∙◌, ap}
use Rattle.ps_resolve.specs.Sources.{contents}
use Rattle.ps_c_texts.proofs.FileNames.{many_texts}
use Rattle.ps_c_texts.proofs.file_names.file_names.Goals as goal

pub returns-clause-utf8 : goal.returns-clause-utf8
returns-clause-utf8 g c =
    rw (ap contents c.as_slice.ensures ∙ c.in_ok-parts.ensures.ok) at c.texts.ensures.utf8

pub returns-clause-err : goal.returns-clause-err
returns-clause-err g c =
    rw (ap contents c.as_slice.ensures ∙ c.in_ok-parts.ensures.ok) at c.texts.ensures.err

pub returns-clause-many : goal.returns-clause-many
returns-clause-many g c = many_texts c.args.names.now c.args.lengths.now c.texts.result
    (rw (ap contents c.as_slice.ensures ∙ c.in_ok-parts.ensures.ok) at c.texts.ensures.same)
