-- The texts that there are.
use Rattle.std.specs.Prelude.{Bool, true, false}
use Rattle.ps_texts.specs.declared.kinds.TextKind.{TextKind}
use Rattle.ps_texts.specs.declared.kinds.TextKind.TheVariants as kind

-- the files have names in the text
abbrev pub needs_names : TextKind → Bool
needs_names (kind.OfLink what form) = false
needs_names (kind.OfHost what) = false
needs_names kind.Wanted = false
needs_names (kind.Named what) = true
