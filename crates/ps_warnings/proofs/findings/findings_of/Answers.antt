use Rattle.ps_warnings.proofs.HasWarned.{added_are_in_order, added_are_said}
use Rattle.ps_warnings.proofs.findings.findings_of.Goals as goal

pub returns-clause-said : goal.returns-clause-said
returns-clause-said g c =
    let added = rw c.records_of_host-host.ensures at c.in_ok-add_all.ensures in
    added_are_said _ _ _ _ c.new.result.items _ c.new.ensures.items added

pub returns-clause-ordered : goal.returns-clause-ordered
returns-clause-ordered g c =
    let added = rw c.records_of_host-host.ensures at c.in_ok-add_all.ensures in
    added_are_in_order _ _ _ _ c.new.result.items _ c.new.ensures.items added
