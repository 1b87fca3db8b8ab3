use Rattle.std.proofs.Common.{arith, length-take, length-drop, take_all}
use Rattle.ps_writing.proofs.Prefixes.{appends_more}
use Rattle.ps_writing.proofs.Rising.{progress}
use Rattle.ps_writing.proofs.writing.write_all.Goals as goal

pub loop-at-preserved : goal.loop-at-preserved
loop-at-preserved g c = grind (arith, length-take, length-drop, appends_more, progress)

pub returns-clause-all : goal.returns-clause-all
returns-clause-all g c = search (arith, take_all)

pub returns-clause-failed : goal.returns-clause-failed
returns-clause-failed g c = search

pub returns-in-Err-clause-prefix : goal.returns-in-Err-clause-prefix
returns-in-Err-clause-prefix g c = (c.loop-at.at, search arith)

pub returns-in-Err-clause-writes : goal.returns-in-Err-clause-writes
returns-in-Err-clause-writes g c = search arith

pub returns-in-Err-clause-failed : goal.returns-in-Err-clause-failed
returns-in-Err-clause-failed g c = search arith
