use Rattle.ps_output_files.proofs.Logs.{taken_part}
use Rattle.ps_output_files.proofs.linking.write_map_to.Goals as goal

pub returns-clause-part : goal.returns-clause-part
returns-clause-part g c = taken_part _ c.write_map-written.result c.close_written.result _ _ _ _ _ _ _
    c.in-Ok.ensures.created c.write_map-written.ensures.all c.write_map-written.ensures.prefix
    c.close_written.ensures.closed
