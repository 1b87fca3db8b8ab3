use Rattle.ps_resolve.proofs.Vocabulary.{rules, arith, ◌∙◌, sym, append-nil, err_from_is_err_and}
use Rattle.ps_resolve.proofs.Duplicates.{new_entries, new_first, no_definitions, none_entries, none_first, stopped_at}
use Rattle.ps_reading.proofs.NumberedRecords.{one, none}
use Rattle.ps_resolve.proofs.definitions.define_all.Goals as goal

pub returns-then-definitions-eq0 : goal.returns-then-definitions-eq0
returns-then-definitions-eq0 g c =
    let no = no_definitions c.args.records.now
    (sym c.definitions.ensures ∙ c.if-definitions-eq0.true) in
    grind arith

pub returns-in_err-define-clause-stop : goal.returns-in_err-define-clause-stop
returns-in_err-define-clause-stop g c =
    let step = one c.loop-rec.invariant.left c.in-Some.ensures.steps in
    let some = sym c.def_of.ensures ∙ c.in-Some-def_of.is in
    grind (arith, err_from_is_err_and, stopped_at)

pub loop-rec-preserved-in-Continue-1 : goal.loop-rec-preserved-in-Continue-1
loop-rec-preserved-in-Continue-1 g c =
    let step = one c.loop-rec.invariant.left c.in-Some.ensures.steps in
    let some = sym c.def_of.ensures ∙ c.in-Some-def_of.is in
    grind (arith, new_entries, new_first)

pub loop-rec-preserved : goal.loop-rec-preserved
loop-rec-preserved g c =
    let step = one c.loop-rec.invariant.left c.in-Some.ensures.steps in
    let none = sym c.def_of.ensures ∙ c.in_default.is in
    search (rules, none_entries, none_first)

pub returns : goal.returns
returns g c =
    let end = none c.loop-rec.invariant.left c.in-None.ensures.steps.0 in
    grind (arith, append-nil)
