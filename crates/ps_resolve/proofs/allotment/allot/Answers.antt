use Rattle.ps_resolve.proofs.Vocabulary.{◌∙◌, sym, arith, append-nil, err_from_is_err_and}
use Rattle.ps_resolve.proofs.AllottedPrivates.{Allots, allot_more, allot_on, allots, no_privates, privates_counted, stopped_at}
use Rattle.ps_resolve.proofs.Duplicates.{positive}
use Rattle.ps_reading.proofs.NumberedRecords.{one, none}
use Rattle.ps_resolve.proofs.allotment.allot.Goals as goal

pub returns-then-privates-eq0 : goal.returns-then-privates-eq0
returns-then-privates-eq0 g c =
    let no = no_privates c.args.place.slot c.args.next c.args.records.now
    (sym c.privates.ensures ∙ c.if-privates-eq0.true) in
    grind (arith, append-nil)

pub loop-rec-init : goal.loop-rec-init
loop-rec-init g c =
    let rs = c.args.records.now in
    let d = c.in_ok-duplicate.duplicate in
    let before = c.args.privates.now.items in
    grind (arith, allots c.args.place.slot c.args.next d before rs)

pub returns-in_err-free-clause-stop : goal.returns-in_err-free-clause-stop
returns-in_err-free-clause-stop g c =
    let step = one c.loop-rec.invariant c.in-Some.ensures.steps in
    let some = sym c.words_of_private.ensures ∙ c.in-Some-words_of_private.is in
    grind (
      arith,
      err_from_is_err_and,
      stopped_at c.in_ok-duplicate.ensures.found step.2 some c.args.place.file,
      positive,
      privates_counted,
    )

pub loop-rec-preserved-in-Some-words_of_private : goal.loop-rec-preserved-in-Some-words_of_private
loop-rec-preserved-in-Some-words_of_private g c =
    let step = one c.loop-rec.invariant c.in-Some.ensures.steps in
    let some = sym c.words_of_private.ensures ∙ c.in-Some-words_of_private.is in
    let more = allot_more c.in_ok-duplicate.ensures.found step.2 some c.in_ok-free.ensures.other
    c.in_ok-free.ensures.fits in
    grind (arith, Allots)

pub loop-rec-preserved : goal.loop-rec-preserved
loop-rec-preserved g c =
    let step = one c.loop-rec.invariant c.in-Some.ensures.steps in
    grind (
      arith,
      allot_on c.in_ok-duplicate.ensures.found step.2
          (sym c.words_of_private.ensures ∙ c.in_default.is),
    )

pub returns : goal.returns
returns g c =
    let end = none c.loop-rec.invariant c.in-None.ensures.steps.0 in
    grind (arith, append-nil)
