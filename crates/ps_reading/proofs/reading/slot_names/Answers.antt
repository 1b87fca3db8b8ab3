use Rattle.ps_reading.proofs.Vocabulary.{◌≡◌, ◌<◌, ◌≤◌, ◌∙◌, length, take, map, ℕ, sym, subst, arith, take_all, range_with_len, map-range_with_len_more, common_steps, SLOT_COUNT, SLOTS}
use Rattle.ps_reading.specs.Added.{slot_name, slot_names}
use Rattle.ps_reading.proofs.reading.slot_names.Goals as goal

pub loop-slot-preserved : goal.loop-slot-preserved
loop-slot-preserved c =
    let i = c.loop-slot.slot in
    let lt : i < length c.loop-slot.names = omega arith in
    grind (
      arith,
      common_steps,
      map-range_with_len_more (slot_name c.args.host.now.file c.args.segments.now)
          0 i i (omega arith),
    )

pub returns : goal.returns
unfolding slot_names
returns c =
    let names = c.loop-slot.names in
    let done : c.loop-slot.slot ≡ SLOTS = omega arith in
    let whole : length names ≤ SLOT_COUNT = omega (arith, c.loop-slot.invariant.all) in
    sym (take_all SLOTS names whole)
    ∙ subst (λ (n : ℕ). take n names
    ≡ map (slot_name c.args.host.now.file c.args.segments.now)
    (range_with_len 0 n)) done c.loop-slot.invariant.done
