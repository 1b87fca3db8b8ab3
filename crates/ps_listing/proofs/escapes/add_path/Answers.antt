use Rattle.ps_listing.proofs.Vocabulary.{◌∙◌, flat_map, sym, ap, map-id, adds_is, shown_char}
use Rattle.std.proofs.lemmas.Iterator.{YieldsList-from_chars}
use Rattle.std.proofs.lemmas.Iterator.Consumers.{YieldsList-end}
use Rattle.ps_listing.proofs.escapes.add_path.Goals as goal

pub returns : goal.returns
returns g c =
    let end = YieldsList-end (YieldsList-from_chars c.args.path.now c.utf8.path cc) c.loop-c.yielded
    _ c.loop-c.yielded_by _ _ c.in-None.is c.next.ensures.steps in
    adds_is (ap (flat_map shown_char) (sym (map-id c.loop-c.yielded) ∙ end.0)) c.loop-c.invariant
