use Rattle.std.proofs.Common.{◌∙◌, Bor, List, map, sym}
use Rattle.std.proofs.lemmas.Result.{on_ok_weaker}
use Rattle.std.specs.Option.{option_map}
use Rattle.ps_linkinfo.specs.declared.record.LinkRecord.{LinkRecord as Record}
use Rattle.ps_check_segments.specs.Seen.{seen}
use Rattle.ps_check_segments.specs.Paths.{host_order, paths_in}
use Rattle.ps_warnings.proofs.Found.{adds_is}
use Rattle.ps_warnings.proofs.Slots.{is_code, no_code_file}
use Rattle.ps_warnings.proofs.findings.files.look_at.Goals as goal

pub returns-then-is_code_type : goal.returns-then-is_code_type
returns-then-is_code_type g c =
    let all = is_code (paths_in c.args.context.now.inputs.now) (option_map (λ (h : Bor
    (List Record)). h.now) c.args.context.now.host)
    (map seen c.args.context.now.list.now) (host_order c.args.context.now.inputs.now.host.now)
    c.args.file c.args.bytes.now (sym c.is_code_type.ensures ∙ c.if-is_code_type.true) in
    on_ok_weaker c.look_at_code_file.result (λ more. adds_is (sym all) more)
    c.look_at_code_file.ensures

pub returns : goal.returns
returns g c =
    let none = no_code_file (paths_in c.args.context.now.inputs.now) (option_map (λ (h : Bor
    (List Record)). h.now) c.args.context.now.host)
    (map seen c.args.context.now.list.now) (host_order c.args.context.now.inputs.now.host.now)
    c.args.file c.args.bytes.now (sym c.is_code_type.ensures ∙ c.if-is_code_type.false) in
    on_ok_weaker c.add_unsure.result (λ more. adds_is (sym none) more) c.add_unsure.ensures
