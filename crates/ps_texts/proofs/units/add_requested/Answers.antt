use Rattle.std.proofs.Common.{◌∙◌, ap, is_some, sym}
use Rattle.ps_laws.proofs.Vocabulary.{UnitReference}
use Rattle.ps_texts.specs.UnitNames.{sought_name}
use Rattle.ps_texts.proofs.SlotNames.{item_found, of_error}
use Rattle.ps_texts.proofs.units.add_requested.Goals as goal

pub returns-in_err-add_found-clause-memory : goal.returns-in_err-add_found-clause-memory
returns-in_err-add_found-clause-memory g c =
    let host = c.args.host.now in
    of_error c.from_residual.result
    (item_found (λ (r : UnitReference). sought_name host.order host.file r.name)
    c.args.requested.now c.loop-request.request-index _ c.loop-request.names.items _
    c.loop-request-test.true
    (ap is_some (sym c.sought_name.ensures) ∙ c.in_err-add_found.ensures.memory)
    c.loop-request.invariant)
