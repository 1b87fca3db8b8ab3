use Rattle.ps_reading.proofs.Vocabulary.{◌∙◌, ◌<◌, ℕ, refl, arith, Bool, All-nil, is_empty, is_role, SLOTS}
use Rattle.ps_reading.specs.Added.{empty_slots}
use Rattle.ps_reading.proofs.RequestQueue.{filter_more, all_if, few_if}
use Rattle.ps_reading.proofs.reading.added.empty_slots.Goals as goal

pub loop-slot-init : goal.loop-slot-init
unfolding empty_slots
loop-slot-init c = rw c.new-slots.ensures
    (record { all = refl; in_range = All-nil (λ (slot : ℕ). slot < SLOTS); few = omega arith })

pub loop-slot-preserved : goal.loop-slot-preserved
loop-slot-preserved c =
    let test : ℕ → Bool = is_role is_empty c.args.host.now.order c.args.host.now.file in
    let i : ℕ = c.loop-slot.slot in
    let old = c.loop-slot.slots.items in
    let inv = c.loop-slot.invariant in
    rw c.add_empty.ensures (record {
      all = inv.all ∙ filter_more test old i SLOTS c.loop-slot-test.true;
      in_range = all_if (λ (slot : ℕ). slot < SLOTS)
          (test i) old i inv.in_range c.loop-slot-test.true;
      few = grind (arith, few_if);
    })
