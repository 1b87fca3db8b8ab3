use Rattle.std.proofs.Common.{rules}
use Rattle.ps_resolve.proofs.definitions.empty_table.Goals as goal

pub returns-in_err-table-clause-stop : goal.returns-in_err-table-clause-stop
returns-in_err-table-clause-stop g c = search rules
