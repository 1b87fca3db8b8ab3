use Rattle.ps_linkinfo.proofs.Vocabulary.{◌≡◌, ◌∙◌, arith, ap, length, refs_at}
use Rattle.ps_linkinfo.proofs.ReferenceWords.{refs_are, refs_len}
use Rattle.ps_linkinfo.proofs.first.refs_at.Goals as goal

pub returns-clause-refs : goal.returns-clause-refs
returns-clause-refs c = grind (arith, refs_are)

pub returns-clause-size : goal.returns-clause-size
returns-clause-size c =
    let refs : c.new-refs.result ≡ refs_at c.args.order c.args.rest.now c.get-count.result =
    c.new-refs.ensures ∙ refs_are c.args.order c.args.rest.now c.get-count.result
    (omega arith) in
    let len : length c.new-refs.result ≡ c.get-count.result =
    ap length refs ∙ refs_len c.args.order c.args.rest.now c.get-count.result in
    rw len (omega (arith, c.list_len-size.ensures.len))
