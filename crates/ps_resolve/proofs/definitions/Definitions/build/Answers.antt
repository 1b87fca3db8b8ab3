use Rattle.ps_resolve.proofs.Vocabulary.{arith, ◌≡◌, List, None, sym, ap, ◌∙◌, IfOk-weaker, reading, Record, HaveNoNamesakes, is_definition, first_duplicate}
use Rattle.ps_resolve.proofs.Builders.{defined_once, stops_definitions}
use Rattle.ps_resolve.proofs.definitions.Definitions.build.Goals as goal

pub returns-clause-names : goal.returns-clause-names
returns-clause-names g c =
    let host = c.args.host.now in
    let rs : List Record = (reading host.order host.bytes.now).0 in
    IfOk-weaker c.of_records.result (λ _. first_duplicate c.up_to_fault-records.result ≡ None)
    (λ _. HaveNoNamesakes is_definition rs)
    (λ d once. defined_once host.file host.slot rs
    (sym (ap first_duplicate c.up_to_fault-records.ensures) ∙ once)) c.of_records.ensures.once

pub returns-clause-refused : goal.returns-clause-refused
returns-clause-refused g c = grind (arith, stops_definitions)
