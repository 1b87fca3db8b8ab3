use Rattle.std.proofs.Common.{arith, List, ℕ}
use Rattle.ps_resolve.proofs.EarlierNames.{distinct_names, shared}
use Rattle.ps_resolve.proofs.namesakes.have_distinct_names.Goals as goal

pub returns-clause-own : goal.returns-clause-own
returns-clause-own g c holds =
    let ys : List ℕ = c.sort_unstable.new.self.items in
    grind (arith, distinct_names c.args.records.now ys)

pub returns-clause-shared : goal.returns-clause-shared
returns-clause-shared g c fails distinct =
    let ys : List ℕ = c.sort_unstable.new.self.items in
    grind (arith, shared c.args.records.now ys)
