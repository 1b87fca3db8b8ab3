use Rattle.std.proofs.Common.{◌∷◌, drop}
use Rattle.ps_resolve.specs.Sources.{contents}
use Rattle.ps_listing.proofs.FilesListed.{FilesLeft}
use Rattle.ps_listing.proofs.lists.Lists.of.Given as goal

-- the files so far are listed, and the others are still to be listed
abbrev pub invariant-loop-index : goal.invariant-loop-index
invariant-loop-index g l = FilesLeft l.how (l.host_path ∷ contents l.paths)
    (l.host ∷ contents l.libs) (contents (drop l.index l.paths)) (contents (drop l.index l.libs))
    l.files.items
