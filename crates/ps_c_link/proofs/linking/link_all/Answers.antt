use Rattle.std.proofs.Common.{rules}
use Rattle.ps_c_link.proofs.linking.link_all.Goals as goal

pub returns-clause-linked : goal.returns-clause-linked
returns-clause-linked g c = search rules

pub returns-then-room-size-clause-unput : goal.returns-then-room-size-clause-unput
returns-then-room-size-clause-unput g c = search rules
