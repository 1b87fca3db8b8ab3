use Rattle.std.proofs.Common.{◌≡◌, length, take, map}
use Rattle.std.specs.List.{range_with_len}
use Rattle.ps_codefile.specs.Dictionary.{name_at}
use Rattle.ps_codefile.specs.declared.dictionary_layout.TheConstants.{SLOT_COUNT}
use Rattle.ps_codefile.proofs.dictionary.Dict.names.Given as goal

-- the names so far
abbrev pub invariant-loop-i : goal.invariant-loop-i
invariant-loop-i l = (length l.names ≡ SLOT_COUNT)
    × (take l.i l.names ≡ map (name_at l.self.file) (range_with_len 0 l.i))
