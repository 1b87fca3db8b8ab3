use Rattle.std.proofs.Common.{arith, ◌≡◌, [], rules}
use Rattle.ps_writing.proofs.Vocabulary.{on_err_weaker, on_ok_weaker}
use Rattle.ps_writing.proofs.Prefixes.{on_err_always, prefix_last, prefix_then}
use Rattle.ps_writing.proofs.Sending.{sends_both}
use Rattle.ps_writing.proofs.stream.send.Goals as goal

pub returns-in_err-flush-clause-prefix : goal.returns-in_err-flush-clause-prefix
returns-in_err-flush-clause-prefix g c = grind (arith, on_err_always, prefix_then)

pub returns-clause-sent : goal.returns-clause-sent
returns-clause-sent g c =
    let none : c.try_extend_from_slice.new.self.items ≡ [] = search rules in
    on_ok_weaker c.write_all_of.result (sends_both
    _ _ _ c.args.gathered.now.items c.args.bytes.now c.try_extend_from_slice.new.self.items
    c.in_ok-flush.ensures.bytes none) c.write_all_of.ensures.all

pub returns-clause-prefix : goal.returns-clause-prefix
returns-clause-prefix g c = on_err_weaker c.write_all_of.result (prefix_last _ _ _
    c.args.gathered.now.items c.args.bytes.now c.in_ok-flush.ensures.bytes)
    c.write_all_of.ensures.prefix
