use Rattle.std.proofs.Common.{◌≤◌, length}
use Rattle.std.specs.Io.KnownBytes.{Consumes}
use Rattle.ps_command.specs.declared.files.TheConstants.{LONGEST}
use Rattle.ps_command.proofs.files.read_to_end.Given as goal

abbrev pub invariant-read : goal.invariant-read
invariant-read g l = (length l.all.items ≤ LONGEST)
    × Consumes (g.F.Read.remaining l.initial.file) (g.F.Read.remaining l.file) l.all.items
    × (l.turn ≤ length l.all.items)
