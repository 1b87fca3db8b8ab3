use Rattle.ps_linkfile.proofs.Vocabulary.{StoredIn, references_in, ◌≡◌, List, ap}
use Rattle.ps_linkfile.specs.ReferencesJson.{Referenced, referenced_in}
use Rattle.ps_writing.proofs.Written.{adds_is, ◌⨾◌}
use Rattle.ps_linkfile.proofs.references.ReferencesText.add_to.Goals as goal

pub returns : goal.returns
returns g c =
    let form = c.args.self.now.form in
    let same = c.map.view_is in
    let inside : Referenced =
    record { plan = c.map.inside.linked; all_stored = c.map.inside.all_stored.items } in
    let seen : inside ≡ c.args.self.now.map.now = cc same in
    adds_is (ap (λ r. referenced_in form r) seen) (c.add_map.ensures ⨾ adds_is (ap (λ
    (ls : List StoredIn). references_in form ls) c.as_slice.ensures.value) c.add_references.ensures)
