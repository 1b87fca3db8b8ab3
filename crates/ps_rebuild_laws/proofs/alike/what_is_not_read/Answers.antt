use Rattle.std.proofs.Common.{◌∙◌}
use Rattle.ps_linkfile.proofs.Whole.{none_found}
use Rattle.ps_rebuild_laws.proofs.AlikeFiles.{first_same, segments_same}
use Rattle.ps_rebuild_laws.proofs.Information.{same_reading}
use Rattle.ps_rebuild_laws.proofs.alike.what_is_not_read.Goals as goal

pub returns : goal.returns
returns c =
    let first = c.first_of_all.ensures in
    record {
      linked = λ host other libs others file alike is.
          let none = none_found first.some host libs is.accepted in
          c.link_is_its_segments.ensures host other libs others file is
          (first.none other others (first_same host other libs others alike ∙ none))
          alike.heads (segments_same host other libs others alike none);
      refused = λ host other libs others f alike is. first.some other others f
          (first_same host other libs others alike ∙ first.only host libs f is);
      after_end_mark = same_reading c.one_reading.ensures.spells;
    }
