use Rattle.std.proofs.Common.{subst, sym, ◌∙◌}
use Rattle.ps_linkfile.proofs.Whole.{none_found}
use Rattle.ps_linkfile.specs.LinkedFile.{LinkedFile}
use Rattle.ps_rebuild_laws.proofs.SameFile.{same_file}
use Rattle.ps_rebuild_laws.proofs.same_segments.link_is_its_segments.Goals as goal

pub returns : goal.returns
returns c = λ host other libs others file is none heads same.
    let law = c.linked_file_is_one.ensures in
    subst (λ f. LinkedFile other others f)
    (sym (law.one host libs file is ∙ same_file host other libs others heads same))
    (law.there other others (none_found c.first_of_all.ensures.some other others none))
