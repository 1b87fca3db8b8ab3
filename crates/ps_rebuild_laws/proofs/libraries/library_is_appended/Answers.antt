use Rattle.std.proofs.Common.{ap, refl, sym, [], ◌++◌, ◌∷◌}
use Rattle.ps_linkfile.proofs.Whole.{none_found}
use Rattle.ps_rebuild_laws.proofs.Rearranged.{appended_fine, appended_same}
use Rattle.ps_rebuild_laws.specs.SameSegments.{of_any_file}
use Rattle.ps_rebuild_laws.proofs.Vocabulary.{map}
use Rattle.ps_rebuild_laws.proofs.libraries.library_is_appended.Goals as goal

pub returns-clause-linked : goal.returns-clause-linked
returns-clause-linked c = λ host lib file libs opened is.
    let none = none_found c.first_of_all.ensures.some host libs is.accepted in
    c.link_is_its_segments.ensures host host libs (libs ++ lib ∷ []) file is
    (c.first_of_all.ensures.none host (libs ++ lib ∷ []) (appended_fine host libs lib none opened))
    (record { order = refl; names = λ slot h. refl; tail = refl })
    (sym (ap (λ segs. map of_any_file segs) (appended_same host libs lib none opened)))

pub returns-clause-segments : goal.returns-clause-segments
returns-clause-segments c = λ host lib file libs opened is. appended_same host libs lib
    (none_found c.first_of_all.ensures.some host libs is.accepted) opened
