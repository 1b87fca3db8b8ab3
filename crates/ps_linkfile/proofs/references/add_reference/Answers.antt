use Rattle.ps_writing.proofs.Written.{adds_is, adds_none, ◌⨾◌}
use Rattle.ps_linkfile.proofs.references.add_reference.Goals as goal

pub returns : goal.returns
returns g c = adds_is (rw (c.as_bytes.ensures.value, c.word.ensures, c.by_form-word.ensures))
    (c.add_by_form.ensures ⨾ c.add.ensures ⨾ c.add_by_form-2.ensures
    ⨾ (c.add_part.ensures ⨾ (c.add_part-2.ensures ⨾ adds_none)) ⨾ c.add_by_form-3.ensures)
