use Rattle.std.proofs.Common.{◌∙◌, Bor, List, Some, sym}
use Rattle.std.proofs.lemmas.Result.{on_ok_weaker}
use Rattle.std.specs.Option.{option_map}
use Rattle.ps_linkinfo.specs.declared.record.LinkRecord.{LinkRecord as Record}
use Rattle.ps_warnings.proofs.Found.{adds_both, adds_is}
use Rattle.ps_warnings.proofs.Slots.{of_host, of_unit}
use Rattle.ps_warnings.proofs.findings.records.look_at_definitions.Goals as goal

pub returns-then-is_host : goal.returns-then-is_host
returns-then-is_host g c =
    let e = c.args.entry.now in
    let all = of_host c.args.path.now (Some e.name) (option_map (λ (h : Bor
    (List Record)). h.now) c.args.context.now.host) e.kind
    c.args.size c.args.records.now (sym c.is_host.ensures ∙ c.if-is_host.true) in
    let place = c.in_segment-place.ensures in
    let low = rw (place, c.low_mark.ensures, c.end_mark.ensures) at c.in_ok-add.ensures in
    let high = rw (place, c.first_above.ensures) at c.add_of_record.ensures in
    on_ok_weaker c.add_of_record.result (λ more. adds_is (sym all) (adds_both low more)) high

pub returns : goal.returns
returns g c =
    let e = c.args.entry.now in
    let all = of_unit c.args.path.now (Some e.name) (option_map (λ (h : Bor
    (List Record)). h.now) c.args.context.now.host) e.kind
    c.args.size c.args.records.now (sym c.is_host.ensures ∙ c.if-is_host.false) in
    let place = c.in_segment-place.ensures in
    let missed = rw (place, c.first_definition-missed.ensures) at c.in_ok-add_of_record.ensures in
    let other = rw (place, c.first_definition-other.ensures) at c.add_of_record-3.ensures in
    on_ok_weaker c.add_of_record-3.result (λ more. adds_is (sym all) (adds_both missed more)) other
