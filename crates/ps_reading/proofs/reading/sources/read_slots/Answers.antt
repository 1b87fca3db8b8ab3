use Rattle.ps_reading.proofs.Vocabulary.{◌≡◌, ℕ, append-nil, List, Option, length, map, refl, subst, arith, length-range_with_len, range_with_len, map-range_with_len_more, All-nil, Fault, opened, SLOTS}
use Rattle.std.proofs.lemmas.List.{length-map}
use Rattle.ps_reading.specs.Faults.{source_fault}
use Rattle.ps_reading.specs.Readings.{own_faults, read_segment, read_segments}
use Rattle.ps_reading.proofs.ReadingSources.{few_more, kept_on}
use Rattle.ps_reading.proofs.reading.sources.read_slots.Goals as goal

pub loop-slot-init : goal.loop-slot-init
unfolding read_segments
loop-slot-init g c = rw c.requires.empty
    (record { faults = c.requires.none; all = refl; read = All-nil _; few = omega arith })

pub loop-slot-preserved : goal.loop-slot-preserved
loop-slot-preserved g c =
    let host = c.args.host.now in
    let libs = opened host.order c.args.libs.now in
    let i = c.loop-slot.slot in
    let inv = c.loop-slot.invariant in
    let next = c.read_next-fault.ensures in
    let old = c.loop-slot.segments.items in
    let f : ℕ → Option Fault = source_fault host.order host.file libs in
    let h = read_segment host.order host.file libs in
    let so_far : List (Option Fault) = map f (range_with_len 0 i) in
    let many : length so_far ≡ i = grind (arith, length-map, length-range_with_len) in
    let more = map-range_with_len_more f 0 i i (omega arith) in
    record {
      faults = rw (more, ← next.fault) (c.take_next.ensures so_far many inv.faults);
      all = rw (next.segments, ← kept_on h old (h i) i SLOTS c.loop-slot-test.true refl) inv.all;
      read = next.read;
      few = rw next.segments (few_more old (h i) i inv.few);
    }

pub returns-clause-faults : goal.returns-clause-faults
unfolding own_faults
returns-clause-faults g c =
    let inv = c.loop-slot.invariant in
    let order = c.args.host.now.order in
    let libs = opened order c.args.libs.now in
    let done : c.loop-slot.slot ≡ SLOTS = omega arith in
    subst (λ (n : ℕ). g.F.SlotFaults.has_taken c.loop-slot.faults
    (map (source_fault order c.args.host.now.file libs) (range_with_len 0 n))) done inv.faults

pub returns-clause-segments : goal.returns-clause-segments
returns-clause-segments g c = grind (arith, append-nil)
