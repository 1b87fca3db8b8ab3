use Rattle.ps_resolve.proofs.allotment.append.Goals as goal

pub returns-clause-privates : goal.returns-clause-privates
returns-clause-privates g c = c.in_ok-push.ensures.items
