use Rattle.std.proofs.Common.{rules}
use Rattle.ps_c_link.proofs.answer.Answer.refusal.Goals as goal

pub returns : goal.returns
returns c = search rules
