use Rattle.std.proofs.Common.{◌≡◌, length, take, map}
use Rattle.std.specs.List.{range_with_len}
use Rattle.ps_warnings.specs.Searches.FileFindings.{extent_at}
use Rattle.ps_codefile.specs.declared.dictionary_layout.TheConstants.{SLOT_COUNT}
use Rattle.ps_warnings.proofs.findings.extents.extents_of.Given as goal

-- the extents so far
abbrev pub invariant-loop-slot : goal.invariant-loop-slot
invariant-loop-slot l = (length l.extents ≡ SLOT_COUNT)
    × (take l.slot l.extents ≡ map (extent_at l.dict.order l.dict.file)
    (range_with_len 0 l.slot))
