use Rattle.std.proofs.Common.{arith}
use Rattle.ps_writing.proofs.Sending.{sent_after, sent_no_more}
use Rattle.ps_writing.proofs.stream.StreamTextWriter.add.Goals as goal

pub returns-then-is_some : goal.returns-then-is_some
returns-then-is_some g c = grind (arith, sent_no_more)

pub returns : goal.returns
returns g c = grind (arith, sent_after)
