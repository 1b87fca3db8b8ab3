use Rattle.std.proofs.Common.{drop}
use Rattle.ps_linkfile.specs.MapText.{definition_row}
use Rattle.ps_writing.specs.Rows.{rows_from, rows_in}
use Rattle.ps_writing.proofs.Written.{Written}
use Rattle.ps_linkfile.proofs.map.add_definitions.Given as goal

-- the rows of the definitions that are left are still to be written
abbrev pub invariant-loop-i : goal.invariant-loop-i
invariant-loop-i g l = Written g.S.TextWriter.added l.fn.text
    (rows_in l.form definition_row l.definitions)
    (rows_from l.form definition_row l.i (drop l.i l.definitions)) l.text
