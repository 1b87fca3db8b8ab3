use Rattle.ps_listing.proofs.Vocabulary.{◌∙◌, ap, sym, adds_is, ◌⨾◌}
use Rattle.ps_listing.proofs.FilesListed.{item_with_units, units_listed}
use Rattle.ps_listing.specs.FileLists.{Listed}
use Rattle.ps_listing.proofs.lists.ListedFile.add_item.Goals as goal

pub returns-in-Units : goal.returns-in-Units
returns-in-Units g c =
    adds_is (units_listed c.args.first c.args.self.now
    (sym (ap (λ (l : Listed). l.how) c.self.view_is) ∙ c.in-Units.is))
    (c.add_in-in-Units.ensures ⨾ c.add_units.ensures)

pub returns-in-JsonUnits : goal.returns-in-JsonUnits
returns-in-JsonUnits g c =
    adds_is (item_with_units c.args.first c.args.self.now
    (sym (ap (λ (l : Listed). l.how) c.self.view_is) ∙ c.in-JsonUnits.is))
    (adds_is c.separator-in-JsonUnits.ensures c.add-in-JsonUnits.ensures
    ⨾ c.add_with_units.ensures)
