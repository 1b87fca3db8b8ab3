use Rattle.ps_laws.proofs.LinkedBytes.{bytes, one_linked, places}
use Rattle.ps_laws.proofs.linked_bytes.bytes_are_linked.Goals as goal

pub returns : goal.returns
returns c = let law = c.one_reading.ensures.stops in
    record { made = bytes law; one = one_linked law; apart = places law }
