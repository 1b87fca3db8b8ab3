use Rattle.ps_reading.proofs.Vocabulary.{arith, ℕ, refl, option_map, in_slot, SLOTS}
use Rattle.ps_reading.specs.Faults.{slot_reason, slots_fault}
use Rattle.ps_reading.proofs.FirstSlots.{first_here, first_later}
use Rattle.ps_reading.proofs.reading.slots.slots_fault.Goals as goal

pub loop-slot-init : goal.loop-slot-init
unfolding slots_fault
loop-slot-init c = refl

pub returns-in-Some : goal.returns-in-Some
returns-in-Some c =
    let fault = λ (s : ℕ). option_map (in_slot 0 s)
    (slot_reason c.args.host.now.order c.args.host.now.file s) in
    grind (arith, first_here fault c.loop-slot.slot SLOTS)

pub loop-slot-preserved : goal.loop-slot-preserved
loop-slot-preserved c = grind (arith, first_later)
