use Rattle.ps_output_files.proofs.Written.{adds_before, before_prepared, writes_link}
use Rattle.ps_output_files.proofs.linking.link_files.Goals as goal

pub returns-in-Ok-clause-written : goal.returns-in-Ok-clause-written
returns-in-Ok-clause-written g c = writes_link c.args.asked.now c.in-Ok.prepared _ _
    c.in-Ok.ensures.stands.file c.in-Ok.ensures.map g.R.CodeFiles.world c.args.rt.now
    c.link_prepared.new.rt c.link_prepared.result c.link_prepared.ensures.written
    c.link_prepared.ensures.apart

pub returns-in-Ok-clause-left : goal.returns-in-Ok-clause-left
returns-in-Ok-clause-left g c = adds_before c.args.asked.now c.in-Ok.prepared _ _
    c.in-Ok.ensures.stands.file c.in-Ok.ensures.map (g.R.CodeFiles.world c.args.rt.now)
    (g.R.CodeFiles.world c.link_prepared.new.rt) c.link_prepared.result
    c.link_prepared.ensures.left

pub returns-in-Err-clause-left : goal.returns-in-Err-clause-left
returns-in-Err-clause-left g c = rw c.from.ensures
    (before_prepared c.args.asked.now _ _ (g.R.CodeFiles.world c.args.rt.now) c.in-Err.stop)

pub returns-in-Ok-clause-prefix : goal.returns-in-Ok-clause-prefix
returns-in-Ok-clause-prefix g c =
    rw c.in-Ok.ensures.stands.summary at c.link_prepared.ensures.prefix
