use Rattle.std.proofs.Common.{◌+◌, Bor, List, map, refl}
use Rattle.std.proofs.lemmas.List.{drop_more}
use Rattle.std.specs.Option.{option_map}
use Rattle.ps_linkinfo.specs.declared.record.LinkRecord.{LinkRecord as Record}
use Rattle.ps_resolve.specs.Sources.{contents}
use Rattle.ps_warnings.specs.Searches.AllFindings.{findings_of_file}
use Rattle.ps_check_segments.specs.Paths.{host_order, paths_in}
use Rattle.ps_check_segments.specs.Seen.{seen}
use Rattle.ps_warnings.proofs.Found.{numbered_left, numbered_over, owes_all, owes_less, owes_none}
use Rattle.ps_warnings.proofs.SeenLists.{contents_left, contents_over}
use Rattle.ps_warnings.proofs.findings.add_of_libraries.Goals as goal

pub loop-library-init : goal.loop-library-init
loop-library-init g c = owes_all refl

pub loop-library-preserved : goal.loop-library-preserved
loop-library-preserved g c =
    let libs = c.args.context.now.inputs.now.libs.now in
    let i = c.loop-library.library in
    owes_less (numbered_left (findings_of_file (paths_in c.args.context.now.inputs.now)
    (option_map (λ (h : Bor (List Record)). h.now) c.args.context.now.host)
    (map seen c.args.context.now.list.now)
    (host_order c.args.context.now.inputs.now.host.now)) (i + 1) (contents libs) i _
    (contents_left libs i _ (drop_more libs i _ c.loop-library-test.true)))
    c.loop-library.invariant c.in_ok-look_at.ensures

pub returns : goal.returns
returns g c =
    let libs = c.args.context.now.inputs.now.libs.now in
    let i = c.loop-library.library in
    owes_none (numbered_over (findings_of_file (paths_in c.args.context.now.inputs.now)
    (option_map (λ (h : Bor (List Record)). h.now) c.args.context.now.host)
    (map seen c.args.context.now.list.now)
    (host_order c.args.context.now.inputs.now.host.now)) (i + 1) (contents libs) i
    (contents_over libs i c.loop-library-test.false)) c.loop-library.invariant
