use Rattle.ps_reading.proofs.Vocabulary.{◌≡◌, ◌<◌, ◌≤◌, ◌∙◌, ℕ, length, take, map, sym, subst, arith, range_with_len, take_more_set, take_all, map-range_with_len_more, common_steps, entry_at, role_of, SLOT_COUNT, SLOTS}
use Rattle.ps_reading.proofs.reading.slots.HostSlots.of.Goals as goal

pub loop-slot-preserved : goal.loop-slot-preserved
loop-slot-preserved c =
    let i = c.loop-slot.slot in
    let inv = c.loop-slot.invariant in
    let in_roles : i < length c.loop-slot.roles = omega (arith, inv.all_roles) in
    let role_set = take_more_set c.loop-slot.roles i c.role.result in_roles in
    record {
      all_roles = grind (arith, common_steps);
      roles =
          let role = c.role.ensures in
          let so_far = inv.roles in
          let more = map-range_with_len_more
          (λ (s : ℕ). role_of (entry_at c.args.dict.order c.args.dict.file s)) 0 i i
          (omega arith) in
          grind arith;
    }

pub invariant_of-result : goal.invariant_of-result
invariant_of-result c =
    let inv = c.loop-slot.invariant in
    let done : c.loop-slot.slot ≡ SLOTS = omega arith in
    let whole : length c.loop-slot.roles ≤ SLOT_COUNT = omega (arith, inv.all_roles) in
    sym (take_all SLOTS c.loop-slot.roles whole)
    ∙ subst (λ (n : ℕ). take n c.loop-slot.roles
    ≡ map (λ (s : ℕ). role_of (entry_at c.args.dict.order c.args.dict.file s))
    (range_with_len 0 n)) done inv.roles
