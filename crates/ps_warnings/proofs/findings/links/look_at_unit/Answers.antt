use Rattle.std.proofs.Common.{◌∙◌, List, map, ap, sym}
use Rattle.std.proofs.lemmas.List.{take-map}
use Rattle.std.proofs.lemmas.Result.{on_ok_weaker}
use Rattle.ps_warnings.specs.Searches.AllFindings.{findings_of_unit}
use Rattle.ps_warnings.specs.Searches.LinkFindings.{other_spelling}
use Rattle.ps_check_segments.specs.Seen.{Seen, seen}
use Rattle.ps_check_segments.specs.declared.segments.ReadSegment.{ReadSegment}
use Rattle.ps_warnings.proofs.Found.{adds_both}
use Rattle.ps_warnings.proofs.findings.links.look_at_unit.Goals as goal

pub returns : goal.returns
unfolding findings_of_unit
returns g c =
    let s = seen c.args.segment.now in
    let ss = c.args.context.now.list.now in
    let spelled = c.other_spelling-other.ensures
    ∙ (ap (λ (l : List ReadSegment). other_spelling (map seen l) s) c.before-earlier.ensures
    ∙ ap (λ (l : List Seen). other_spelling l s) (sym (take-map seen c.args.index ss))) in
    let place = c.in_segment-place.ensures in
    let taken = rw (place, c.path-path.ensures, c.file_of-file.ensures, c.taken_by-taken.ensures)
    at c.in_ok-add.ensures in
    let other = rw (place, c.path-path.ensures, c.file_of-file.ensures, spelled)
    at c.add-2.ensures in
    on_ok_weaker c.add-2.result (λ more. adds_both taken more) other
