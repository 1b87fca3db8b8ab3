use Rattle.ps_reading.proofs.Vocabulary.{◌≡◌, ◌∙◌, ◌+◌, ◌++◌, ◌<◌, ◌∷◌, [], ℕ, List, length, length-append, take, drop, Some, None, refl, sym, ap, subst, arith, All-nil, err_from_is_err_and, Segment, opened, requested_from, unit_references, rounds_from, unplaced_fault, AscendFrom, IsRead, put_by_slot, UnitReference, MAX_REQUESTED}
use Rattle.ps_reading.proofs.RequestQueue.{at_round, next_slot, kept, end_of_names, end_of_slots, end_by_fault, round_adds, rounds_end, joined, joined_more, references_more, few_kept}
use Rattle.ps_reading.proofs.BySlot.{All-put, empty_ascend, new_in, own_table}
use Rattle.ps_reading.proofs.reading.added.add_units.Goals as goal

pub loop-round-init : goal.loop-round-init
loop-round-init c =
    let host = c.args.host.now in
    let libs = opened host.order c.args.libs.now in
    record {
      so_far = record {
        added = [];
        from = 0;
        below = All-nil (λ (s : Segment). s.slot < 0);
        ascend = subst (AscendFrom 0) (sym c.requires.empty)
            (empty_ascend host.order host.file libs);
        table_is = own_table host.order host.file libs _ c.requires.own;
        count = omega arith;
        rounds = λ whole is. (whole, refl, is, refl);
      };
      short = c.requires.short;
      read = c.requires.read;
    }

pub read_unit-requires-clause-read : goal.read_unit-requires-clause-read
read_unit-requires-clause-read c = rw c.as_slice.ensures.value c.loop-round.invariant.read

pub returns-in-None : goal.returns-in-None
returns-in-None c =
    let inv = c.loop-round.invariant in
    rounds_end inv.so_far None inv.read
    (end_of_names inv.so_far c.loop-round.round (omega arith) refl c.in-None.ensures)

pub returns-in_err-segment-in-Some : goal.returns-in_err-segment-in-Some
returns-in_err-segment-in-Some c =
    let inv = c.loop-round.invariant in
    let fault = c.in_err-segment-in-Some.field-0.0 in
    let p = err_from_is_err_and c.from_residual.result c.from_residual.ensures.1 in
    rw (p.1, p.2) (rounds_end inv.so_far (Some fault) inv.read (end_by_fault inv.so_far
    c.loop-round.round (omega arith) refl c.in-Some.requested fault c.in-Some.ensures
    c.loop-round-test.true
    (rw c.in_slot-request.ensures at (sym c.in_err-segment-in-Some.ensures.fault))))

pub enqueue_segment-requires : goal.enqueue_segment-requires
enqueue_segment-requires c = c.loop-round.invariant.short

pub put-requires : goal.put-requires
put-requires c =
    let t = c.loop-round.invariant.so_far in
    let host = c.args.host.now in
    let new = new_in host.order host.file (opened host.order c.args.libs.now) _ c.requires.own
    c.args.slots.now c.loop-round.round t.from t.added c.in_ok-segment-in-Some.segment
    c.in-Some.requested c.requires.empty c.requires.in_range c.loop-round-test.true t.ascend
    t.below (rw c.in_slot-request.ensures at c.in_ok-segment-in-Some.ensures.segment) in
    omega (arith, new.room, ap (λ (ys : List Segment). length ys) t.table_is)

pub loop-round-preserved : goal.loop-round-preserved
loop-round-preserved c =
    let inv = c.loop-round.invariant in
    let t = inv.so_far in
    let host = c.args.host.now in
    let libs = opened host.order c.args.libs.now in
    let slots : List ℕ = c.args.slots.now in
    let i : ℕ = c.loop-round.round in
    let s : Segment = c.in_ok-segment-in-Some.segment in
    let brought = rw c.in_slot-request.ensures at c.in_ok-segment-in-Some.ensures.segment in
    let new = new_in host.order host.file libs _ c.requires.own slots i t.from t.added s
    c.in-Some.requested c.requires.empty c.requires.in_range c.loop-round-test.true t.ascend
    t.below brought in
    let units = c.args.units.now in
    let left = drop (i + 1) slots in
    let gs = unit_references s.file s.slot 0 s.records in
    record {
      so_far = record {
        added = t.added ++ s ∷ [];
        from = s.slot + 1;
        below = new.below;
        ascend = new.ascend;
        table_is = c.put.ensures.segments ∙ (ap (put_by_slot s) t.table_is ∙ new.put);
        count = omega (arith, c.put.ensures.len, t.count, length-append t.added (s ∷ []));
        rounds = λ whole kept_is.
            let r = t.rounds whole kept_is in
            let queue = r.0 in
            let next = requested_from units queue gs in
            let at = at_round queue c.loop-round.queue.items i i (Some c.in-Some.requested) r.2
            (omega arith) refl c.in-Some.ensures in
            let is : c.enqueue_segment.new.queue.items ≡ take MAX_REQUESTED next =
            c.enqueue_segment.ensures
            ∙ (ap (λ (q : List UnitReference). take MAX_REQUESTED (requested_from units q gs))
            r.2 ∙ kept units queue gs) in
            let rest = rounds_from host.order host.file libs units left (i + 1) next in
            let here = ap (λ (l : List ℕ). rounds_from host.order host.file libs units l i queue)
            (next_slot slots i c.loop-round-test.true)
            ∙ round_adds host.order host.file libs units i queue _ left c.in-Some.requested s
            at (rw c.in_slot-request.ensures at (sym c.in_ok-segment-in-Some.ensures.fault))
            brought in (
              next,
              ap (λ (q : List UnitReference). requested_from units q gs) r.1
                  ∙ references_more units whole t.added s,
              is,
              r.3 ∙ (ap (joined t.added) here ∙ joined_more t.added s rest),
            );
      };
      short = rw c.enqueue_segment.ensures
          (few_kept (requested_from units c.loop-round.queue.items gs));
      read = rw c.put.ensures.segments (All-put (IsRead host.order host.file libs) s
          c.loop-round.segments.items inv.read c.in_ok-segment-in-Some.ensures.read);
    }

pub returns-in-None-requested_at : goal.returns-in-None-requested_at
returns-in-None-requested_at c =
    let inv = c.loop-round.invariant in
    rounds_end inv.so_far None inv.read (end_of_names inv.so_far (length c.args.slots.now)
    (omega arith) (omega arith) c.in-None-requested_at.ensures)

pub returns-in-Some-requested_at : goal.returns-in-Some-requested_at
returns-in-Some-requested_at c =
    let inv = c.loop-round.invariant in
    let host = c.args.host.now in
    let g = c.in-Some-requested_at.requested in
    rw c.no_slot.ensures (rounds_end inv.so_far
    (Some (unplaced_fault host.order (opened host.order c.args.libs.now) g)) inv.read
    (end_of_slots inv.so_far (length c.args.slots.now) (omega arith) (omega arith) g
    c.in-Some-requested_at.ensures c.loop-round-test.false))
