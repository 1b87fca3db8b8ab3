use Rattle.std.proofs.Common.{◌∙◌, ap, is_some, refl, sym, arith}
use Rattle.ps_texts.specs.UnitNames.{slots_wanted, wanted_name}
use Rattle.ps_texts.proofs.SlotNames.{of_error, one_found, one_more}
use Rattle.ps_texts.proofs.units.slots_wanted.Goals as goal

pub loop-slot-init : goal.loop-slot-init
unfolding slots_wanted
loop-slot-init g c = rw c.new-names.ensures.items refl

pub loop-slot-preserved : goal.loop-slot-preserved
loop-slot-preserved g c =
    let host = c.args.host.now in
    one_more (wanted_name host.order host.file) (slots_wanted host.order host.file) _ _ _
    c.loop-slot-test.true (grind arith) c.loop-slot.invariant

pub returns-in_err-add_found-clause-memory : goal.returns-in_err-add_found-clause-memory
returns-in_err-add_found-clause-memory g c =
    let host = c.args.host.now in
    of_error c.from_residual.result (one_found (wanted_name host.order host.file)
    (slots_wanted host.order host.file) c.loop-slot.names.items c.loop-slot.slot
    c.loop-slot-test.true
    (ap is_some (sym c.wanted_name.ensures) ∙ c.in_err-add_found.ensures.memory)
    c.loop-slot.invariant)
