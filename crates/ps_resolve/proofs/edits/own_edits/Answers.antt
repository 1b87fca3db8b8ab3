use Rattle.ps_resolve.proofs.ReservedEdits.{number_table, size_table}
use Rattle.ps_resolve.proofs.edits.own_edits.Goals as goal

pub returns-then-not-host-clause-edits : goal.returns-then-not-host-clause-edits
returns-then-not-host-clause-edits g c = rw (c.put.ensures, c.code.ensures, c.if-not-host.true)
    (number_table c.args.procedures.now c.in_ok-edits.edits.states.items c.args.slot c.requires.long
    c.in_ok-edits.ensures.len c.in_ok-edits.ensures.states).same

pub returns-then-not-host-clause-table : goal.returns-then-not-host-clause-table
returns-then-not-host-clause-table g c = rw (c.put.ensures, c.code.ensures)
    (number_table c.args.procedures.now c.in_ok-edits.edits.states.items _ c.requires.long
    c.in_ok-edits.ensures.len c.in_ok-edits.ensures.states).table

pub returns-then-not-host-clause-taken : goal.returns-then-not-host-clause-taken
returns-then-not-host-clause-taken g c = rw (c.put.ensures, c.code.ensures)
    (number_table c.args.procedures.now c.in_ok-edits.edits.states.items _ c.requires.long
    c.in_ok-edits.ensures.len c.in_ok-edits.ensures.states).taken

pub returns-clause-edits : goal.returns-clause-edits
returns-clause-edits g c =
    rw (c.put-2.ensures, c.put.ensures, c.code.ensures, c.if-not-host.false)
    (size_table c.args.procedures.now c.in_ok-edits.edits.states.items c.args.slot c.requires.long
    c.in_ok-edits.ensures.len c.in_ok-edits.ensures.states c.args.size
    (c.requires.table c.if-not-host.false)).same

pub returns-clause-table : goal.returns-clause-table
returns-clause-table g c = rw (c.put-2.ensures, c.put.ensures, c.code.ensures)
    (size_table c.args.procedures.now c.in_ok-edits.edits.states.items _ c.requires.long
    c.in_ok-edits.ensures.len c.in_ok-edits.ensures.states c.args.size
    (c.requires.table c.if-not-host.false)).table

pub returns-clause-taken : goal.returns-clause-taken
returns-clause-taken g c = rw (c.put-2.ensures, c.put.ensures, c.code.ensures)
    (size_table c.args.procedures.now c.in_ok-edits.edits.states.items _ c.requires.long
    c.in_ok-edits.ensures.len c.in_ok-edits.ensures.states c.args.size
    (c.requires.table c.if-not-host.false)).taken
