use Rattle.ps_listing.proofs.Vocabulary.{◌⨾◌}
use Rattle.ps_listing.specs.ListText.{segment_in}
use Rattle.ps_listing.proofs.segments.add_segment.Goals as goal

pub returns : goal.returns
unfolding segment_in
returns g c = c.begin_segment.ensures ⨾ c.add_part.ensures ⨾ c.add_kind.ensures
    ⨾ c.add_length.ensures ⨾ c.add_found.ensures ⨾ c.end_row.ensures
