use Rattle.ps_listing.proofs.SmallLists.{lines_are, segments_are, units_are}
use Rattle.ps_listing.proofs.laws.lines_of_a_file.Goals as goal

pub returns : goal.returns
returns c = record { segments = segments_are; lines = lines_are; units = units_are }
