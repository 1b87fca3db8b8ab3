use Rattle.std.proofs.Common.{inl, inr}
use Rattle.ps_command.proofs.lists.print_lists.Goals as goal

pub returns-in-Json-clause-ok : goal.returns-in-Json-clause-ok
returns-in-Json-clause-ok g c = elim c.in-Json.is [
  | inl list ↦ rw list (rw list at c.print_document.ensures.ok)
  | inr units ↦ rw units (rw units at c.print_document.ensures.ok)
]
