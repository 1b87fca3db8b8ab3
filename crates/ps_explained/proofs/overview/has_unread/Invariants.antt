use Rattle.std.proofs.Common.{◌≡◌, drop}
use Rattle.ps_resolve.specs.Sources.{contents}
use Rattle.ps_explained.specs.SegmentLines.{has_unread}
use Rattle.ps_explained.proofs.overview.has_unread.Given as goal

-- none so far
abbrev pub invariant-loop-lib : goal.invariant-loop-lib
invariant-loop-lib l = has_unread l.inputs.host.now (contents l.inputs.libs.now)
    ≡ has_unread l.inputs.host.now (contents (drop l.lib-index l.inputs.libs.now))
