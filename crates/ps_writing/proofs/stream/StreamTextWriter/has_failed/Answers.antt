use Rattle.std.proofs.Common.{arith}
use Rattle.ps_writing.proofs.Sending.{sent_no_more}
use Rattle.ps_writing.proofs.stream.StreamTextWriter.has_failed.Goals as goal

pub returns : goal.returns
returns g c = grind (arith, sent_no_more)
