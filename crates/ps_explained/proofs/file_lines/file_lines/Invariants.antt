use Rattle.std.proofs.Common.{◌+◌, ◌∷◌, [], drop, string_bytes}
use Rattle.ps_resolve.specs.Sources.{contents}
use Rattle.ps_explained.specs.SlotLines.{AddsSlotLines}
use Rattle.ps_explained.proofs.FileLines.{FilesLeft}
use Rattle.ps_explained.proofs.file_lines.file_lines.Given as goal

-- the lines of the files so far are added, and those of the others are still to be
abbrev pub invariant-loop-index : goal.invariant-loop-index
invariant-loop-index g l = record {
  lines : FilesLeft (l.inputs.host_path.now ∷ contents l.inputs.paths.now)
      (l.inputs.host.now ∷ contents l.inputs.libs.now) (l.index + 1)
      (contents (drop l.index l.inputs.libs.now)) (string_bytes l.text);
  silent : AddsSlotLines [] [] (string_bytes l.text);
}
