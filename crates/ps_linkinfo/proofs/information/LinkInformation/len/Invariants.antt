use Rattle.ps_linkinfo.proofs.Vocabulary.{◌≡◌, length}
use Rattle.std.specs.Prelude.{◌+◌}
use Rattle.ps_linkinfo.proofs.information.LinkInformation.len.Given as goal

-- the records that were walked and those that are left are all
abbrev pub invariant-loop : goal.invariant-loop
invariant-loop l = l.len + length l.iterator' ≡ length l.self
