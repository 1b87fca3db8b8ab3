use Rattle.std.proofs.Common.{ℕ}
use Rattle.ps_linkfile.proofs.Blocks.{LaidSoFar}
use Rattle.ps_linkfile.proofs.block_layout.layout_of.Given as goal

-- the codes of the sources so far are laid out
abbrev pub invariant-loop-source : goal.invariant-loop-source
invariant-loop-source l =
    (from : ℕ) × LaidSoFar l.sources l.source-index l.starts.items l.blocks from
