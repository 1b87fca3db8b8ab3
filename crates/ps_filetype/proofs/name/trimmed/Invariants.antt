use Rattle.std.proofs.Common.{◌≡◌, ◌≤◌, take}
use Rattle.ps_filetype.specs.Shown.{trimmed}
use Rattle.ps_filetype.proofs.name.trimmed.Given as goal

-- so many of the bytes so far are left without the blanks at their end
abbrev pub invariant-loop-place : goal.invariant-loop-place
invariant-loop-place l = (l.used ≤ l.place)
    × (take l.used l.name ≡ trimmed (take l.place l.name))
