use Rattle.ps_check_segments.specs.Paths.{paths_in}
use Rattle.ps_texts.proofs.texts.wanted_of.Goals as goal

pub returns-clause-made : goal.returns-clause-made
returns-clause-made g c =
    rw c.read-reading.ensures at (c.wanted_in.ensures.made (paths_in c.args.files.now))
