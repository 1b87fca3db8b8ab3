use Rattle.ps_reading.proofs.Vocabulary.{◌≡◌, ◌∙◌, true, false, sym, list_any, slots, is_host}
use Rattle.ps_reading.specs.Faults.{is_role, no_host_fault}
use Rattle.ps_reading.proofs.reading.slots.no_host_fault.Goals as goal

pub returns-then-has_host_below : goal.returns-then-has_host_below
unfolding no_host_fault
returns-then-has_host_below c =
    let there : list_any (is_role is_host c.args.host.now.order c.args.host.now.file) slots
    ≡ true = sym c.has_host_below.ensures ∙ c.if-has_host_below.true in
    rw there

pub returns : goal.returns
unfolding no_host_fault
returns c =
    let none : list_any (is_role is_host c.args.host.now.order c.args.host.now.file) slots
    ≡ false = sym c.has_host_below.ensures ∙ c.if-has_host_below.false in
    rw (none, c.in_file.ensures)
