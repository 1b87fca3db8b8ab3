use Rattle.ps_texts.proofs.EachOnce.{taken}
use Rattle.ps_texts.proofs.wanted_law.wanted_units.Goals as goal

pub returns : goal.returns
returns c h = taken h
