use Rattle.std.proofs.Common.{◌≡◌, ◌++◌, map, string_bytes}
use Rattle.ps_check_segments.specs.Seen.{seen}
use Rattle.ps_codefile.specs.declared.dictionary_layout.TheConstants.{SLOTS}
use Rattle.ps_explained.specs.OverviewText.{is_without, slot_list, slots_without}
use Rattle.ps_explained.proofs.OverviewTexts.{slots_from}
use Rattle.ps_explained.proofs.overview.add_slots.Given as goal

-- the numbers so far, and those of the slots that are left, are all
abbrev pub invariant-loop-slot : goal.invariant-loop-slot
invariant-loop-slot g l = string_bytes l.text
    ++ slots_from (is_without l.host (map seen l.list)) SLOTS l.slot
    ≡ string_bytes l.fn.text ++ slot_list (slots_without l.host (map seen l.list))
