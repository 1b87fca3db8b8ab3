use Rattle.std.proofs.Common.{◌≡◌, ◌-◌, ◌++◌, map}
use Rattle.std.specs.Prelude.{filter_map}
use Rattle.std.specs.List.{range_with_len}
use Rattle.ps_codefile.specs.Dictionary.{slots}
use Rattle.ps_resolve.specs.Sources.{contents}
use Rattle.ps_check_segments.specs.Seen.{seen}
use Rattle.ps_check_segments.specs.SeenSegments.{seen_in}
use Rattle.ps_codefile.specs.declared.dictionary_layout.TheConstants.{SLOTS}
use Rattle.ps_check_segments.proofs.segments.segments_in_slots.Given as goal

-- what is seen so far, and in the slots that are left, is all
abbrev pub invariant-loop-slot : goal.invariant-loop-slot
invariant-loop-slot g l =
    let f = seen_in l.inputs.host.now (contents l.inputs.libs.now) l.host in
    map seen l.list.items ++ filter_map f (range_with_len l.slot (SLOTS - l.slot))
    ≡ filter_map f slots
