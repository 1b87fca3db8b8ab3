use Rattle.ps_reading.proofs.reading.request.unit_named.Goals as goal

pub returns-clause-dict : goal.returns-clause-dict
returns-clause-dict c = λ file. rw c.order.ensures at (c.chosen_library.ensures.dict file)
