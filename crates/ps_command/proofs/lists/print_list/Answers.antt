use Rattle.std.proofs.Common.{◌∙◌}
use Rattle.ps_command.specs.declared.files.FileFault.TheVariants as fault
use Rattle.ps_command.proofs.ListsPrinted.{one_listed, one_unread}
use Rattle.ps_command.proofs.lists.print_list.Goals as goal

pub returns-in-Err-clause-ok : goal.returns-in-Err-clause-ok
returns-in-Err-clause-ok g c =
    let unread = c.report_unread.ensures in
    one_unread (g.R.CodeFiles.world c.args.rt.now) c.args.how c.args.first c.args.path.now
    c.report_unread.result _ _ (c.in-Err.fault, c.in-Err.ensures.why) unread.ended unread.text

pub returns-in-Ok-of-clause-ok : goal.returns-in-Ok-of-clause-ok
returns-in-Ok-of-clause-ok g c =
    let bytes = c.as_slice.ensures.value in
    let l = c.in-Ok-of.ensures in
    let printed = c.print_file.ensures in
    one_listed (g.R.CodeFiles.world c.args.rt.now) c.args.how c.args.first c.args.path.now
    c.in-Ok.file.items c.in-Ok-of.listed c.print_file.result _ _ c.in-Ok.ensures.whole l.how l.path
    (l.file ∙ bytes) (rw bytes at l.phrase) printed.ended printed.text

-- memory ran out for the list of a file that was opened
pub returns-clause-ok : goal.returns-clause-ok
returns-clause-ok g c =
    let read = c.in-Ok.ensures.whole in
    let unread = c.report_unread-in-Err-of.ensures in
    one_unread (g.R.CodeFiles.world c.args.rt.now) c.args.how c.args.first c.args.path.now
    c.report_unread-in-Err-of.result _ _ (fault.Memory, (read.0, read.1)) unread.ended unread.text
