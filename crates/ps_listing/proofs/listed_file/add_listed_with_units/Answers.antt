use Rattle.ps_listing.proofs.Vocabulary.{◌⨾◌}
use Rattle.ps_listing.proofs.listed_file.add_listed_with_units.Goals as goal

pub returns : goal.returns
returns g c = c.add_file.ensures ⨾ c.add_segments.ensures ⨾ c.add.ensures
    ⨾ c.add_unit_items.ensures ⨾ c.add-2.ensures
