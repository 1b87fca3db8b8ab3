use Rattle.std.proofs.Common.{nat_lt, rules}
use Rattle.std.proofs.lemmas.Fn.{always_returns_same}
use Rattle.ps_resolve.proofs.EarlierNames.{ascends, does_not_ascend}
use Rattle.ps_resolve.proofs.namesakes.ascend.Goals as goal

pub returns-clause-rise : goal.returns-clause-rise
returns-clause-rise c = ascends c.args.numbers.now c.is_sorted_by.result
    (c.is_sorted_by.ensures.cases nat_lt (always_returns_same _ _ _ (λ a r q k. search rules)))

pub returns-clause-do_not : goal.returns-clause-do_not
returns-clause-do_not c = does_not_ascend c.args.numbers.now c.is_sorted_by.result
    (c.is_sorted_by.ensures.cases nat_lt (always_returns_same _ _ _ (λ a r q k. search rules)))
