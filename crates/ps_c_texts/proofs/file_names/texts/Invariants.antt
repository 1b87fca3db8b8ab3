use Rattle.std.proofs.Common.{◌≡◌, take}
use Rattle.std.specs.Prelude.{All, IsUtf8}
use Rattle.ps_resolve.specs.Sources.{contents}
use Rattle.ps_c_texts.proofs.file_names.texts.Given as goal

-- the texts are the names so far, which are UTF-8
abbrev pub invariant-loop-name : goal.invariant-loop-name
invariant-loop-name g l = (contents l.texts.items ≡ contents (take l.name-index l.names))
    × All (λ name. IsUtf8 name.now) (take l.name-index l.names)
