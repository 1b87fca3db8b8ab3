use Rattle.std.proofs.Common.{[]}
use Rattle.ps_warnings.specs.Found.{Adds, about_link}
use Rattle.ps_warnings.proofs.findings.segment_words.look_at_words.Given as goal

-- so far nothing about the link was added
abbrev pub invariant-loop-segment : goal.invariant-loop-segment
invariant-loop-segment g l = Adds (about_link l.fn.findings) [] (about_link l.findings)
