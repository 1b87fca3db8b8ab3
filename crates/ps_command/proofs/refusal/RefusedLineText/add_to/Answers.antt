use Rattle.std.proofs.Common.{append_assoc, arith}
use Rattle.ps_writing.proofs.Written.{◌⨾◌, adds_is}
use Rattle.ps_command.proofs.refusal.RefusedLineText.add_to.Goals as goal

pub returns : goal.returns
returns g c = adds_is
    (grind (
      arith,
      append_assoc,
      c.number.ensures,
      c.as_bytes.ensures.value,
      c.name.ensures,
      c.kind.ensures,
      c.map.ensures.cases,
      c.map-2.ensures.cases,
    ))
    (c.add.ensures ⨾ c.add_number.ensures ⨾ c.add-2.ensures ⨾ c.add-3.ensures ⨾ c.add_part.ensures
    ⨾ c.add_number-2.ensures ⨾ c.add_part-2.ensures ⨾ c.add_part-3.ensures ⨾ c.add_part-4.ensures
    ⨾ c.add-4.ensures)
