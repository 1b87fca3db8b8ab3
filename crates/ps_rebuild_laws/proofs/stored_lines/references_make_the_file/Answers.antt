use Rattle.ps_rebuild_laws.proofs.StoredLines.{made_by_lines}
use Rattle.ps_rebuild_laws.proofs.stored_lines.references_make_the_file.Goals as goal

pub returns : goal.returns
returns c =
    let bytes = c.bytes_are_linked.ensures in
    record {
      made = λ host file libs is. made_by_lines host libs file is
          (bytes.made host libs is.accepted)
          (bytes.one host libs is.accepted) (bytes.apart host libs is.accepted)
          (c.offsets_are_sums.ensures host libs)
          (c.first_of_all.ensures.unread host libs (λ step f r h. is.accepted step f h));
    }
