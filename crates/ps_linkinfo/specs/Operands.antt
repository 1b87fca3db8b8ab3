-- The operands in a code that the references of a record name.
-- Source: the published II.0 Linker source.
use Rattle.std.specs.Prelude.{ℕ, slice_get, Option, option_map}
use Rattle.ps_linkinfo.specs.Kinds.{kind_of, kind_width}
use Rattle.ps_linkinfo.specs.Records.{refs_of}
use Rattle.ps_linkinfo.specs.declared.operand.Operand.{Operand}
use Rattle.ps_linkinfo.specs.declared.record.Body.{Body}

-- how many bytes an operand has, by the kind of its record
abbrev pub operand_width : Body → ℕ
operand_width body = kind_width (kind_of body)

-- the operand of a reference of a record, if it has so many
abbrev pub operand_of : Body → ℕ → Option Operand
operand_of body reference =
    option_map (λ place. record { place = place; width = operand_width body })
    (slice_get (refs_of body) reference)
