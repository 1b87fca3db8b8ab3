use Rattle.std.proofs.Common.{◌≡◌, drop}
use Rattle.std.specs.List.{list_any}
use Rattle.ps_resolve.specs.Sources.{contents}
use Rattle.ps_listing.specs.FileLists.{has_host}
use Rattle.ps_listing.proofs.several.has_host_among.Given as goal

-- none so far has a host program
abbrev pub invariant-loop-lib : goal.invariant-loop-lib
invariant-loop-lib l = list_any has_host (contents l.libs)
    ≡ list_any has_host (contents (drop l.lib-index l.libs))
