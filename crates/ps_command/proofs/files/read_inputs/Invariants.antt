-- A library was read for each path so far.
use Rattle.std.proofs.Common.{map, take}
use Rattle.std.specs.List.{AllZip}
use Rattle.ps_output_files.specs.World.{Reads}
use Rattle.ps_command.proofs.files.read_inputs.Given as goal

abbrev pub invariant-loop-path : goal.invariant-loop-path
invariant-loop-path g l =
    AllZip (Reads (g.R.CodeFiles.world l.rt))
    (map (λ path. path.now) (take l.path-index l.inputs.libraries.items))
    (map (λ library. library.items) l.libraries.items)
