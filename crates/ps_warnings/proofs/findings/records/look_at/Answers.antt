use Rattle.std.proofs.lemmas.Result.{on_ok_weaker}
use Rattle.ps_warnings.specs.Searches.FileFindings.{findings_of_records}
use Rattle.ps_warnings.proofs.Found.{adds_both, none_then, then_none}
use Rattle.ps_warnings.proofs.findings.records.look_at.Goals as goal

pub returns : goal.returns
unfolding findings_of_records
returns g c =
    let past = rw (
      c.first_past_private.ensures,
      c.in_segment-place.ensures,
      c.up_to_fault-records.ensures,
      c.entry-entry.ensures,
      c.order-order.ensures,
      c.after-after.ensures,
    )
    at c.in_ok-add_of_record.ensures in
    let public = rw (
      c.first_public.ensures,
      c.in_segment-place.ensures,
      c.up_to_fault-records.ensures,
      c.entry-entry.ensures,
      c.order-order.ensures,
      c.after-after.ensures,
    )
    at c.in_ok-add_of_record-2.ensures in
    let defined = rw (
      c.data_size-size.ensures,
      c.up_to_fault-records.ensures,
      c.entry-entry.ensures,
      c.order-order.ensures,
      c.after-after.ensures,
    )
    at c.look_at_definitions.ensures in
    let before = none_then c.in_ok-add_unsure_of_record.ensures past in
    let between = then_none public
    (then_none c.in_ok-look_at_operands.ensures c.in_ok-add_unsure.ensures) in
    on_ok_weaker c.look_at_definitions.result
    (λ more. adds_both (adds_both before between) more) defined
