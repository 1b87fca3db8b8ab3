use Rattle.ps_command.proofs.ListsPrinted.{took_twice}
use Rattle.ps_command.proofs.lists.print_document.Goals as goal

pub returns-in_err-ended-clause-took : goal.returns-in_err-ended-clause-took
returns-in_err-ended-clause-took g c =
    took_twice _ _ _ (_, c.in_ok-write_all_of.ensures.all) c.in_err-ended.ensures.took

pub returns-in_err-write_all_of-2-clause-took : goal.returns-in_err-write_all_of-2-clause-took
returns-in_err-write_all_of-2-clause-took g c = took_twice _ _ _
    (took_twice _ _ _ (_, c.in_ok-write_all_of.ensures.all) c.in_ok-ended.ensures.took)
    (_, c.in_err-write_all_of-2.ensures.prefix.1)

pub returns-clause-took : goal.returns-clause-took
returns-clause-took g c = took_twice _ _ _
    (took_twice _ _ _ (_, c.in_ok-write_all_of.ensures.all) c.in_ok-ended.ensures.took)
    (_, c.in_ok-write_all_of-2.ensures.all)
