use Rattle.std.proofs.Common.{◌∙◌, Bor, List, map, sym, ap}
use Rattle.std.proofs.lemmas.Result.{on_ok_weaker}
use Rattle.std.specs.Option.{option_map}
use Rattle.ps_linkinfo.specs.declared.record.LinkRecord.{LinkRecord as Record}
use Rattle.ps_check_segments.specs.Seen.{seen}
use Rattle.ps_words.specs.declared.order.Order.{Order}
use Rattle.ps_codefile.specs.Dictionary.{opened_beside}
use Rattle.ps_check_segments.specs.Paths.{host_order, path_of, paths_in}
use Rattle.ps_warnings.proofs.Found.{adds_is, none_then}
use Rattle.ps_warnings.proofs.Slots.{can_read, cannot_read}
use Rattle.ps_warnings.proofs.findings.files.look_at_code_file.Goals as goal

pub returns-in-Ok : goal.returns-in-Ok
returns-in-Ok g c =
    let bytes = c.args.bytes.now in
    let order = host_order c.args.context.now.inputs.now.host.now in
    let is = ap (λ (o : Order). opened_beside o bytes) (sym c.order.ensures)
    ∙ (sym c.read_beside.ensures ∙ c.in-Ok.is) in
    let all = can_read (path_of (paths_in c.args.context.now.inputs.now) c.args.file) (option_map
    (λ (h : Bor (List Record)). h.now) c.args.context.now.host)
    (map seen c.args.context.now.list.now) order bytes c.args.file c.in-Ok.dict is in
    on_ok_weaker c.look_at_dictionary.result
    (λ more. adds_is (sym all) (none_then c.in_ok-add_unsure.ensures
    (none_then c.in_ok-add_unsure-2.ensures more)))
    c.look_at_dictionary.ensures

pub returns-in-Err : goal.returns-in-Err
returns-in-Err g c =
    let bytes = c.args.bytes.now in
    let order = host_order c.args.context.now.inputs.now.host.now in
    let is = ap (λ (o : Order). opened_beside o bytes) (sym c.order.ensures)
    ∙ (sym c.read_beside.ensures ∙ c.in-Err.is) in
    let none = cannot_read (path_of (paths_in c.args.context.now.inputs.now) c.args.file)
    (option_map (λ (h : Bor (List Record)). h.now) c.args.context.now.host)
    (map seen c.args.context.now.list.now) order bytes c.args.file _ is in
    on_ok_weaker c.add_unsure-in-Err.result
    (λ more. adds_is (sym none) (none_then c.in_ok-add_unsure.ensures
    (none_then c.in_ok-add_unsure-2.ensures more)))
    c.add_unsure-in-Err.ensures
