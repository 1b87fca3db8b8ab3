use Rattle.ps_linkfile.proofs.Whole.{none_found}
use Rattle.ps_linkfile.proofs.map.map_text.Goals as goal

pub returns-clause-sound : goal.returns-clause-sound
returns-clause-sound g c =
    none_found c.first_of_all.ensures.some _ _ c.in_ok-linked.ensures.accepted
