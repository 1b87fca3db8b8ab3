use Rattle.ps_writing.proofs.Written.{adds_none, ◌⨾◌}
use Rattle.ps_linkfile.proofs.map.add_segment.Goals as goal

pub returns : goal.returns
returns g c =
    rw (
      ← c.slot.ensures,
      ← c.name.ensures,
      ← c.file.ensures,
      ← c.index.ensures,
      ← c.code.ensures,
      ← c.added.ensures,
    ) (c.begin_row.ensures
    ⨾ (c.add_part.ensures ⨾ (c.add_part-2.ensures ⨾ (c.add_part-3.ensures
    ⨾ (c.add_part-4.ensures ⨾ (c.add_part-5.ensures
    ⨾ (c.add_part-6.ensures ⨾ adds_none)))))) ⨾ c.end_row.ensures)
