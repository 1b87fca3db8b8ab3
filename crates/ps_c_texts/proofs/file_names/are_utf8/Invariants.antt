use Rattle.std.proofs.Common.{◌≡◌, drop, length, sum}
use Rattle.std.specs.Prelude.{◌↔◌, All, IsUtf8}
use Rattle.ps_c_link.specs.Libraries.{split}
use Rattle.ps_c_texts.proofs.file_names.are_utf8.Given as goal

-- all names are UTF-8 just where those are that are left, which have all of what is left
abbrev pub invariant-loop-length : goal.invariant-loop-length
invariant-loop-length l =
    (All IsUtf8 (split l.rest (drop l.length-index l.lengths))
    ↔ All IsUtf8 (split l.names l.lengths))
    × (sum (drop l.length-index l.lengths) ≡ length l.rest)
