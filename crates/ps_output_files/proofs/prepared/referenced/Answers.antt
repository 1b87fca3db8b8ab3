use Rattle.ps_output_files.proofs.Maps.{references_by}
use Rattle.ps_output_files.proofs.prepared.referenced.Goals as goal

pub returns-in-Ok-clause-map : goal.returns-in-Ok-clause-map
returns-in-Ok-clause-map g c form =
    references_by form c.in-Ok.map _ _ c.in-Ok.ensures.text c.in-Ok.ensures.json
