use Rattle.std.proofs.Common.{◌≡◌, drop}
use Rattle.std.specs.List.{filter_map}
use Rattle.ps_texts.specs.UnitNames.{sought_name, with_each}
use Rattle.ps_texts.proofs.units.add_requested.Given as goal

-- the names so far with those that are left are all
abbrev pub invariant-loop-request : goal.invariant-loop-request
invariant-loop-request g l = with_each l.initial.names.items
    (filter_map (λ r. sought_name l.host.order l.host.file r.name) l.requested)
    ≡ with_each l.names.items (filter_map (λ r. sought_name l.host.order l.host.file r.name)
    (drop l.request-index l.requested))
