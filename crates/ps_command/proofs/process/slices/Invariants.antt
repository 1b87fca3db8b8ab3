-- The arguments so far.
use Rattle.std.proofs.Common.{◌≡◌, map, take}
use Rattle.std.specs.Prelude.{string_bytes}
use Rattle.ps_command.proofs.process.slices.Given as goal

abbrev pub invariant-loop-arg : goal.invariant-loop-arg
invariant-loop-arg l = map (λ arg. arg.now) l.args.items
    ≡ map string_bytes (take l.arg-index l.given)
