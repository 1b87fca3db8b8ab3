use Rattle.std.proofs.Common.{refl, ◌++◌, ◌∷◌}
use Rattle.ps_linkfile.proofs.Whole.{none_found}
use Rattle.ps_rebuild_laws.proofs.Rearranged.{left_out}
use Rattle.ps_rebuild_laws.proofs.libraries.library_is_left_out.Goals as goal

pub returns-clause-linked : goal.returns-clause-linked
returns-clause-linked c = λ host lib file before after gives is.
    let kept = left_out host before after lib
    (none_found c.first_of_all.ensures.some host (before ++ (lib ∷ after)) is.accepted) gives in
    c.link_is_its_segments.ensures host host (before ++ (lib ∷ after)) (before ++ after) file is
    (c.first_of_all.ensures.none host (before ++ after) kept.fine)
    (record { order = refl; names = λ slot h. refl; tail = refl }) kept.same

pub returns-clause-numbers : goal.returns-clause-numbers
returns-clause-numbers c = λ host lib file before after gives is.
    (left_out host before after lib (none_found c.first_of_all.ensures.some host
    (before ++ (lib ∷ after)) is.accepted) gives).segments
