use Rattle.ps_linkfile.proofs.Vocabulary.{on_err_weaker, padded_codes, arith, length-append, dictionary}
use Rattle.ps_writing.proofs.Prefixes.{prefix_last, prefix_then, on_err_always}
use Rattle.ps_linkfile.proofs.Codes.{codes_len}
use Rattle.ps_writing.proofs.Rising.{rises_then, room_then}
use Rattle.ps_linkfile.proofs.Rising.{few_of_all}
use Rattle.ps_linkfile.proofs.writing.write_file.Goals as goal

pub write_codes-requires-clause-room : goal.write_codes-requires-clause-room
write_codes-requires-clause-room g c = grind (arith, few_of_all, room_then)

pub returns-in_err-write_all-clause-prefix : goal.returns-in_err-write_all-clause-prefix
returns-in_err-write_all-clause-prefix g c = grind (arith, on_err_always, prefix_then)

pub returns-clause-prefix : goal.returns-clause-prefix
returns-clause-prefix g c =
    let plan = c.args.plan.now in
    on_err_weaker c.write_codes.result (prefix_last _ _ _ (dictionary plan.order
    plan.names plan.host plan.sources) (padded_codes plan.order plan.sources plan.edits)
    (rw c.dictionary_of.ensures at c.in_ok-write_all.ensures.all)) c.write_codes.ensures.prefix

pub returns-clause-writes : goal.returns-clause-writes
returns-clause-writes g c = grind (arith, codes_len, length-append, rises_then)

pub returns-in_err-write_all-clause-few : goal.returns-in_err-write_all-clause-few
returns-in_err-write_all-clause-few g c = grind (arith, codes_len, length-append, few_of_all)

pub returns-clause-few : goal.returns-clause-few
returns-clause-few g c = grind (arith, codes_len, length-append, few_of_all)
