use Rattle.ps_resolve.specs.Sources.{contents}
use Rattle.ps_report.specs.Reported.{reported}
use Rattle.ps_texts.specs.Paths.{paths_in}
use Rattle.ps_c_texts.proofs.PutTexts.{report_put, report_unput}
use Rattle.ps_c_texts.proofs.making.put_told.Goals as goal

pub returns-in-Ok-clause-put : goal.returns-in-Ok-clause-put
returns-in-Ok-clause-put g c = report_put c.args.what c.args.form
    (paths_in c.args.files.now) c.args.files.now.host.now (contents c.args.files.now.libs.now)
    (reported c.args.report.now)
    c.requires c.args.room.now c.put_printed.new.room c.in-Ok.size c.told.result
    c.in-Ok.ensures.text c.in-Ok.ensures.size c.told.ensures

pub returns-in-Err-clause-unput : goal.returns-in-Err-clause-unput
returns-in-Err-clause-unput g c = report_unput c.args.what c.args.form
    (paths_in c.args.files.now) c.args.files.now.host.now (contents c.args.files.now.libs.now)
    (reported c.args.report.now)
    c.requires c.args.room.now c.in-Err.why c.in-Err.ensures.unput
