use Rattle.std.proofs.Common.{arith, [], refl, rules}
use Rattle.ps_writing.proofs.Vocabulary.{on_err_weaker, on_ok_weaker}
use Rattle.ps_writing.proofs.Prefixes.{appends_none}
use Rattle.ps_writing.proofs.Sending.{sent_all, sent_front}
use Rattle.ps_writing.proofs.Written.{adds_first}
use Rattle.ps_writing.proofs.stream.write_text.Goals as goal

pub returns-in-Some-clause-prefix : goal.returns-in-Some-clause-prefix
returns-in-Some-clause-prefix g c = grind (arith, adds_first, appends_none)

pub returns-in-None-clause-all : goal.returns-in-None-clause-all
returns-in-None-clause-all g c = grind (arith, adds_first, appends_none, on_ok_weaker, sent_all)

pub returns-in-None-clause-prefix : goal.returns-in-None-clause-prefix
returns-in-None-clause-prefix g c =
    let (name, sent) = adds_first c.add_to.ensures
    (refl, ([], appends_none _, c.new-room.ensures)) in
    let before = rw c.in-None.is at sent in
    on_err_weaker c.flush.result (λ flushed.
    (let bytes = sent_front _ _ _ _ _ before flushed in search rules)) c.flush.ensures.prefix
