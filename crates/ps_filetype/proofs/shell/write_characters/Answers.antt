use Rattle.std.proofs.Common.{◌∙◌, flat_map, sym, ap, map-id}
use Rattle.std.proofs.Output.{has_written_of_eq}
use Rattle.std.proofs.lemmas.Iterator.{YieldsList-from_chars}
use Rattle.std.proofs.lemmas.Iterator.Consumers.{YieldsList-end}
use Rattle.ps_filetype.specs.ShellWords.{quoted_for_shell}
use Rattle.ps_filetype.proofs.shell.write_characters.Goals as goal

pub returns : goal.returns
returns g c =
    λ plain ok.
    let end = YieldsList-end (YieldsList-from_chars c.args.path.now c.utf8.path cc) c.loop-c.yielded
    _ c.loop-c.yielded_by _ _ c.in-None.is c.next.ensures.steps in
    has_written_of_eq _ _ _ _ _ (ap (flat_map quoted_for_shell)
    (sym (map-id c.loop-c.yielded) ∙ end.0)) (c.loop-c.invariant plain)
