use Rattle.ps_resolve.proofs.Vocabulary.{◌≡◌, ◌∙◌, rules, bytes_eq, false, is_some, definition_of}
use Rattle.indexmap.proofs.CallerLemmas.{insert_entry-new}
use Rattle.ps_resolve.proofs.Duplicates.{none_is}
use Rattle.ps_resolve.proofs.definitions.define.Goals as goal

pub returns-clause-entries : goal.returns-clause-entries
returns-clause-entries g c =
    let absent : is_some (definition_of c.args.name c.args.by_name.now.entries) ≡ false =
    search rules in
    c.in_ok-insert.ensures.entries ∙ insert_entry-new bytes_eq c.args.by_name.now c.args.name
    c.args.def (none_is _ absent)

pub returns-clause-once : goal.returns-clause-once
returns-clause-once g c = search rules
