use Rattle.ps_listing.proofs.Vocabulary.{◌≡◌, ◌∙◌, ap, adds_is}
use Rattle.std.specs.Prelude.{string_bytes}
use Rattle.ps_listing.proofs.FilesListed.{listed_with}
use Rattle.ps_listing.specs.FileLists.{Listed, listed_units}
use Rattle.ps_listing.proofs.lists.ListedFile.add_with_units.Goals as goal

pub returns : goal.returns
returns g c =
    let l = c.self.inside in
    let inside : Listed = record {
      how = l.how;
      path = l.path.now;
      phrase = string_bytes l.phrase;
      file = l.file.now;
    } in
    let same : inside ≡ c.args.self.now = cc c.self.view_is in
    adds_is (listed_with c.args.self.now l.path.now c.as_str-phrase.result.now
    c.values.result c.segments.result.now c.as_slice-units.result.now
    (ap (λ (x : Listed). x.path) same)
    (c.as_str-phrase.ensures.value ∙ ap (λ (x : Listed). x.phrase) same) c.values.ensures
    c.segments.ensures (c.as_slice-units.ensures.value ∙ (c.self.invariant.alone
    ∙ ap (λ (x : Listed). listed_units x.how x.file) same))) c.add_listed_with_units.ensures
