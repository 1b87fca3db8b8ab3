use Rattle.ps_laws.proofs.SegmentOrigins.{one_each, by_slot, own, added_ones, rounds, in_place, of_libraries, all_read}
use Rattle.ps_laws.proofs.origins.segments_have_origins.Goals as goal

pub returns : goal.returns
returns c = let law = c.one_reading.ensures.stops in let spells = c.one_reading.ensures.spells in
    record {
      one_each = one_each law spells;
      by_slot = λ host libs none. by_slot host libs;
      own = own law spells;
      added = added_ones law spells;
      rounds = rounds law spells;
      in_place = in_place law spells;
      wanted = of_libraries law spells;
      read = all_read law spells;
    }
