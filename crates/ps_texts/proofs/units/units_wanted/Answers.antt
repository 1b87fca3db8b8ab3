use Rattle.std.proofs.Common.{◌<◌, ℕ, List, length, subst}
use Rattle.std.specs.List.{filter_map}
use Rattle.ps_laws.proofs.Vocabulary.{UnitReference}
use Rattle.ps_texts.specs.UnitNames.{slots_wanted, sought_name, units_wanted, with_each}
use Rattle.ps_texts.proofs.SlotNames.{of_error}
use Rattle.ps_texts.proofs.units.units_wanted.Goals as goal

pub returns-in_err-add_requested-clause-memory : goal.returns-in_err-add_requested-clause-memory
unfolding units_wanted
returns-in_err-add_requested-clause-memory g c =
    let host = c.args.host.now in
    let sought = λ (r : UnitReference). sought_name host.order host.file r.name in
    of_error c.from_residual-in_err-add_requested.result
    (subst (λ (rs : List UnitReference). 0
    < length (with_each (slots_wanted host.order host.file) (filter_map sought rs)))
    c.requested.ensures
    (subst (λ (names : List (List ℕ)). 0
    < length (with_each names (filter_map sought c.requested.result.now)))
    c.in_ok-names.ensures.names c.in_err-add_requested.ensures.memory))
