use Rattle.std.proofs.Common.{refl, ◌++◌, ◌∷◌}
use Rattle.ps_linkfile.proofs.Whole.{none_found}
use Rattle.ps_rebuild_laws.proofs.Rearranged.{exchanged_kept}
use Rattle.ps_rebuild_laws.proofs.libraries.neighbours_are_exchanged.Goals as goal

pub returns-clause-linked : goal.returns-clause-linked
returns-clause-linked c = λ host lib next file before after apart is.
    let kept = exchanged_kept host before after lib next
    (none_found c.first_of_all.ensures.some host
    (before ++ (lib ∷ next ∷ after)) is.accepted) apart in
    c.link_is_its_segments.ensures host host (before ++ (lib ∷ next ∷ after))
    (before ++ (next ∷ lib ∷ after)) file is
    (c.first_of_all.ensures.none host (before ++ (next ∷ lib ∷ after)) kept.fine)
    (record { order = refl; names = λ slot h. refl; tail = refl }) kept.same

pub returns-clause-refused : goal.returns-clause-refused
returns-clause-refused c = λ host lib next before after apart none file is. none file
    (returns-clause-linked c host next lib file before after (λ name looked p q. apart name looked q p) is)

pub returns-clause-numbers : goal.returns-clause-numbers
returns-clause-numbers c = λ host lib next file before after apart is.
    (exchanged_kept host before after lib next
    (none_found c.first_of_all.ensures.some host (before ++ (lib ∷ next ∷ after))
    is.accepted) apart).segments
