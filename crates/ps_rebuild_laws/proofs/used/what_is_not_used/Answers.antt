use Rattle.std.proofs.Common.{refl}
use Rattle.ps_linkfile.proofs.Whole.{none_found}
use Rattle.ps_rebuild_laws.proofs.UsedAlike.{fine, same}
use Rattle.ps_rebuild_laws.proofs.used.what_is_not_used.Goals as goal

pub returns : goal.returns
returns c = λ host libs others file alike is.
    let none = none_found c.first_of_all.ensures.some host libs is.accepted in
    c.link_is_its_segments.ensures host host libs others file is
    (c.first_of_all.ensures.none host others (fine host libs others none alike))
    (record { order = refl; names = λ slot h. refl; tail = refl })
    (same host libs others none alike)
