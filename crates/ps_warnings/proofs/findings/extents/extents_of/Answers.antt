use Rattle.std.proofs.Common.{◌<◌, length, arith}
use Rattle.std.proofs.lemmas.List.{take_more_set}
use Rattle.std.proofs.lemmas.List.FromFn.{map-range_with_len_more}
use Rattle.std.proofs.lemmas.Grind.{common_steps}
use Rattle.ps_warnings.specs.Searches.FileFindings.{extent_at}
use Rattle.ps_warnings.proofs.findings.extents.extents_of.Goals as goal

pub loop-slot-preserved : goal.loop-slot-preserved
loop-slot-preserved c =
    let i = c.loop-slot.slot in
    let lt : i < length c.loop-slot.extents = omega arith in
    let wrote = take_more_set c.loop-slot.extents i c.extent_at.result lt in
    let more = map-range_with_len_more (extent_at c.args.dict.now.order c.args.dict.now.file)
    0 i i (omega arith) in
    grind (arith, common_steps, wrote, more)
