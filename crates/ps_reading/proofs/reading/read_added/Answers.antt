use Rattle.ps_reading.proofs.Vocabulary.{◌≡◌, ◌∙◌, ◌-◌, ◌+◌, ◌++◌, ℕ, List, [], length, take, refl, sym, ap, subst, arith, slice_get, Segment, opened, contents, units_of, RoundsOutcome, all_unit_references, empty_slots, requested_from, rounds_from, read_rounds, segments_in_slots, AreAlike, MAX_REQUESTED}
use Rattle.ps_reading.proofs.RequestQueue.{references_both, requested-append, few_kept}
use Rattle.ps_reading.proofs.ReadingSlots.{all_of, in_rounds, requests_of}
use Rattle.ps_reading.proofs.SharedRecords.{read_alike}
use Rattle.ps_reading.proofs.reading.read_added.Goals as goal

pub requested_by-queue-requires : goal.requested_by-queue-requires
requested_by-queue-requires c =
    let host = c.args.host.now in
    subst AreAlike (sym c.as_slice-2.ensures.value)
    (read_alike host.order host.file
    (opened host.order c.args.libs.now) c.args.segments.now.items c.requires.read)

pub add_units-rounds-requires : goal.add_units-rounds-requires
add_units-rounds-requires c = record {
  own = c.requires.own;
  read = c.requires.read;
  empty = c.as_slice-3.ensures.value ∙ c.empty_slots-empty.ensures.slots;
  few = c.as_slice-3.ensures.fits;
  short = rw c.requested_by-queue.ensures
      (few_kept (requested_from c.of-units.result []
      (all_unit_references c.as_slice-2.result.now)));
  in_range = rw c.as_slice-3.ensures.value c.empty_slots-empty.ensures.in_range;
}

pub returns : goal.returns
returns c =
    let host = c.args.host.now in
    let files = opened host.order c.args.libs.now in
    let libs = contents c.args.libs.now in
    let own : List Segment = c.args.segments.now.items in
    let units = c.of-units.result in
    let whole = requested_from units [] (all_unit_references own) in
    let empty : c.as_slice-3.result.now ≡ empty_slots host.order host.file =
    c.as_slice-3.ensures.value ∙ c.empty_slots-empty.ensures.slots in
    let queue = c.requested_by-queue.ensures
    ∙ ap (λ (ss : List Segment). take MAX_REQUESTED
    (requested_from units [] (all_unit_references ss)))
    c.as_slice-2.ensures.value in
    let named : units ≡ units_of own =
    c.of-units.ensures ∙ ap units_of c.as_slice.ensures.value in
    let is : rounds_from host.order host.file files units c.as_slice-3.result.now 0 whole
    ≡ read_rounds host.order host.file files =
    ap (λ (u : List (List ℕ × ℕ)). rounds_from host.order host.file files u
    c.as_slice-3.result.now 0 (requested_from u [] (all_unit_references own))) named
    ∙ in_rounds host.order host.file libs own c.requires.own c.as_slice-3.result.now empty in
    let added : List Segment = (read_rounds host.order host.file files).added in
    let count : length c.add_units-rounds.new.segments.items
    ≡ length c.args.segments.now.items + length added =
    c.add_units-rounds.ensures.count whole queue
    ∙ ap (λ (r : RoundsOutcome). length c.args.segments.now.items + length r.added) is in
    let before : c.len-own.result ≡ length c.args.segments.now.items = c.len-own.ensures.value in
    let after : c.len.result ≡ length c.add_units-rounds.new.segments.items = c.len.ensures.value
    in
    let more : c.len.result - c.len-own.result ≡ length added =
    omega (arith, before, after, count) in
    record {
      all = c.add_units-rounds.ensures.added whole queue
          ∙ (ap (λ (r : RoundsOutcome). segments_in_slots host.order host.file own r.added) is
          ∙ all_of host.order host.file libs own c.requires.own added refl);
      read = c.add_units-rounds.ensures.read;
      empty = c.empty_slots-empty.ensures.slots;
      requested = c.add_units-rounds.ensures.requested whole queue
          ∙ (ap (λ (r : RoundsOutcome). take MAX_REQUESTED
          (requested_from units whole (all_unit_references r.added))) is
          ∙ (ap (take MAX_REQUESTED)
          (sym (requested-append units [] (all_unit_references own) (all_unit_references added))
          ∙ ap (requested_from units []) (sym (references_both own added)))
          ∙ (ap (λ (u : List (List ℕ × ℕ)). take MAX_REQUESTED
          (requested_from u [] (all_unit_references (own ++ added)))) named
          ∙ requests_of host.order host.file libs own c.requires.own added refl)));
      following = c.slot_at-next.ensures
          ∙ (ap (slice_get c.empty_slots-empty.result.items) more
          ∙ ap (λ (xs : List ℕ). slice_get xs (length added))
          c.empty_slots-empty.ensures.slots);
      ends = c.err.ensures.value ∙ (c.add_units-rounds.ensures.fault whole queue
          ∙ ap (λ (r : RoundsOutcome). r.fault) is);
    }
