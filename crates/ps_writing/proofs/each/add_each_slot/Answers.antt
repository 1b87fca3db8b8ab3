use Rattle.ps_writing.proofs.Written.{slots_left, some_more}
use Rattle.ps_writing.proofs.each.add_each_slot.Goals as goal

pub loop-slot-preserved : goal.loop-slot-preserved
loop-slot-preserved g c line h =
    some_more (slots_left line c.loop-slot.slot c.args.many c.loop-slot-test.true)
    (c.loop-slot.invariant line h) (h _ c.loop-slot.slot _ c.add.ensures)
