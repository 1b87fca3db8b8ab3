use Rattle.std.proofs.Common.{◌≡◌, ◌++◌, length, string_bytes}
use denote.Text.{Utf8}
use denote.Shadow.{shadow}
use Rattle.ps_report.specs.FindingLines.{part_lines}
use Rattle.ps_report.proofs.lines.add_lines.Given as goal

-- the lines so far are added, and those of what is left are still to be
abbrev pub invariant-loop-line : goal.invariant-loop-line
invariant-loop-line g l = shadow (Utf8 l.left)
    × (string_bytes l.text ++ part_lines l.part l.left
    ≡ string_bytes l.fn.text ++ part_lines l.part l.lines)

abbrev pub decreases-loop-line : goal.decreases-loop-line
decreases-loop-line g l = length l.left
