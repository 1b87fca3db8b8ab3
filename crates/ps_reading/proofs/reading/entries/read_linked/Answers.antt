use Rattle.ps_reading.proofs.Vocabulary.{arith, ◌≡◌, Option, Some, None, Result, Err, Reason, ProcedureTables, tables_fault, unless, is_host}
use Rattle.ps_reading.proofs.reading.entries.read_linked.Goals as goal

why_of : (fault : Option Reason) (tables : ProcedureTables) (why : Reason)
    → ◌≡◌ {A = Result ProcedureTables Reason} (Err why) (unless fault tables)
    → fault ≡ Some why
why_of None tables why h = cc
why_of (Some other) tables why h = cc

pub returns-in-Err-clause-fault : goal.returns-in-Err-clause-fault
returns-in-Err-clause-fault c =
    let order = c.args.from.now.order in
    let code = c.args.code.now in
    let why : tables_fault order code (is_host c.args.role) ≡ Some c.in-Err.reason =
    why_of (tables_fault order code (is_host c.args.role))
    (record { order = order; code = code }) c.in-Err.reason
    (rw (c.order.ensures, c.is_host.ensures) at c.in-Err.ensures.read) in
    grind arith
