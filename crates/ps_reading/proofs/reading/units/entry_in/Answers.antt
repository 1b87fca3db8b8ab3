use Rattle.ps_reading.proofs.Vocabulary.{◌∙◌, sym, ap, find, OpenedFile, slots, is_named}
use Rattle.ps_reading.proofs.ReadingLibraries.{opened_is}
use Rattle.ps_reading.proofs.reading.units.entry_in.Goals as goal

pub returns-in-None-clause-entry : goal.returns-in-None-clause-entry
returns-in-None-clause-entry c =
    let dict = opened_is c.args.order c.args.lib.now c.in-Ok.dict
    (sym c.read_beside.ensures ∙ c.in-Ok.is) in
    sym c.in-None.is ∙ (c.entry_named.ensures.entry
    ∙ ap (λ (o : OpenedFile). find (is_named o.order c.args.name o.file) slots) dict)

pub returns-in-Some-clause-entry : goal.returns-in-Some-clause-entry
returns-in-Some-clause-entry c =
    let dict = opened_is c.args.order c.args.lib.now c.in-Ok.dict
    (sym c.read_beside.ensures ∙ c.in-Ok.is) in
    sym c.in-Some.is ∙ (c.entry_named.ensures.entry
    ∙ ap (λ (o : OpenedFile). find (is_named o.order c.args.name o.file) slots) dict)

pub returns-in-Some-clause-dict : goal.returns-in-Some-clause-dict
returns-in-Some-clause-dict c = opened_is c.args.order c.args.lib.now c.in-Ok.dict
    (sym c.read_beside.ensures ∙ c.in-Ok.is)
