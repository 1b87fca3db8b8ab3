use Rattle.std.proofs.Common.{◌≡◌, length, map, take}
use Rattle.ps_filetype.specs.Names.{plain_byte}
use Rattle.ps_filetype.proofs.odd_names.plain.Given as goal

-- the bytes so far
abbrev pub invariant-loop-i : goal.invariant-loop-i
invariant-loop-i l = (length l.plain ≡ 8)
    × (take l.i l.plain ≡ map plain_byte (take l.i l.name))
