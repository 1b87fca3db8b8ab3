use Rattle.ps_writing.proofs.Written.{adds_is, adds_none, ◌⨾◌}
use Rattle.ps_linkfile.proofs.references.add_place.Goals as goal

pub returns : goal.returns
returns g c = adds_is (rw (
  c.word.ensures,
  c.by_form-word.ensures,
  c.file_offset.ensures,
  c.bytes_at-was.ensures,
  c.bytes_at-is.ensures,
  c.width-width.ensures,
  c.as_slice.ensures.value,
  c.item_end.ensures,
  ← c.stored.view_is,
)) ((c.add_part.ensures ⨾ (c.add_part-2.ensures
    ⨾ (c.add_part-3.ensures ⨾ (c.add_part-4.ensures
    ⨾ (c.add_part-5.ensures ⨾ adds_none))))) ⨾ c.add_record.ensures ⨾ c.add_by_form.ensures)
