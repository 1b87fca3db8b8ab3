use Rattle.ps_output_files.proofs.Logs.{taken_part, taken_whole}
use Rattle.ps_output_files.proofs.linking.write_linked.Goals as goal

pub returns-clause-file : goal.returns-clause-file
returns-clause-file g c = taken_whole c.write_told-written.result c.close_written.result _ _ _ _ _ _ _
    (rw c.new-told.ensures.inner c.in-Ok.ensures.created) c.write_told-written.ensures.file
    (rw c.into_inner.ensures at c.close_written.ensures.closed)
    (rw c.is_ok.ensures.value at c.close_written.ensures.whole)

pub returns-clause-part : goal.returns-clause-part
returns-clause-part g c = taken_part _ c.write_told-written.result c.close_written.result _ _ _ _ _ _ _
    (rw c.new-told.ensures.inner c.in-Ok.ensures.created) c.write_told-written.ensures.file
    c.write_told-written.ensures.prefix (rw c.into_inner.ensures at c.close_written.ensures.closed)
