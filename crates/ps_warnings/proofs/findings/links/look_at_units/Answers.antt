use Rattle.std.proofs.Common.{◌≡◌, ◌∙◌, ◌∷◌, ◌+◌, List, ap, drop, map, refl, sym}
use Rattle.std.proofs.lemmas.List.{drop_more}
use Rattle.ps_check_segments.specs.Paths.{paths_in}
use Rattle.ps_warnings.specs.Searches.AllFindings.{findings_of_unit, findings_of_units}
use Rattle.ps_check_segments.specs.Seen.{seen}
use Rattle.ps_check_segments.specs.declared.segments.ReadSegment.{ReadSegment}
use Rattle.ps_warnings.proofs.Found.{numbered_left, owes_all, owes_less}
use Rattle.ps_warnings.proofs.SeenLists.{seen_left}
use Rattle.ps_warnings.proofs.findings.links.look_at_units.Goals as goal

pub loop-index-init : goal.loop-index-init
unfolding findings_of_units
loop-index-init g c = owes_all refl

pub loop-index-preserved : goal.loop-index-preserved
loop-index-preserved g c =
    let ss : List ReadSegment = c.args.context.now.list.now in
    let i = c.loop-index.index in
    let s : ReadSegment = c.segment-item.result in
    let here : drop i ss ≡ s ∷ drop (i + 1) ss =
    drop_more ss i s c.loop-index-test.true
    ∙ ap (λ (m : ReadSegment). m ∷ drop (i + 1) ss) (sym c.segment-item.is) in
    owes_less (numbered_left (findings_of_unit
    (paths_in c.args.context.now.inputs.now) c.args.host.now.order
    c.args.host.now.file (map seen ss)) i (map seen ss) i (seen s) (seen_left ss i s here))
    c.loop-index.invariant c.in_ok-look_at_unit.ensures
