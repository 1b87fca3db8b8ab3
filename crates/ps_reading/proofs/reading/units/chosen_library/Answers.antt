use Rattle.ps_reading.proofs.Vocabulary.{◌≡◌, ◌∙◌, ℕ, List, false, is_some, get_or, refl, sym, ap, is_none, slots, file_at, has_entry, is_named, opened, opened_file}
use Rattle.ps_reading.proofs.FirstSlots.{any_found}
use Rattle.ps_reading.proofs.ReadingLibraries.{no_file, chosen_at, chosen_later, chosen_file, source_by}
use Rattle.ps_reading.proofs.reading.units.chosen_library.Goals as goal

pub loop-library-init : goal.loop-library-init
loop-library-init c = refl

pub returns-in-Some-clause-source : goal.returns-in-Some-clause-source
returns-in-Some-clause-source c = rw c.library_file-file.ensures
    (source_by c.args.order c.args.name _ _ c.in-Some.index _
    (chosen_at c.args.order c.args.name c.args.libs.now c.loop-library.invariant
    c.loop-library-test.true c.in-Some.ensures.entry) (sym c.in-Some.ensures.entry))

pub returns-in-Some-clause-dict : goal.returns-in-Some-clause-dict
returns-in-Some-clause-dict c host =
    let file = c.library_file-file.ensures in
    let libs = opened c.args.order c.args.libs.now in
    c.in-Some.ensures.dict ∙ ap (λ (f : List ℕ). record { order = c.args.order; file = f })
    (sym (ap (file_at host libs) file ∙ chosen_file c.args.order c.args.name libs _ _ host
    (chosen_at c.args.order c.args.name c.args.libs.now c.loop-library.invariant
    c.loop-library-test.true c.in-Some.ensures.entry)))

pub returns-in-Some-clause-none : goal.returns-in-Some-clause-none
returns-in-Some-clause-none c = sym (ap is_none
    (chosen_at c.args.order c.args.name c.args.libs.now c.loop-library.invariant
    c.loop-library-test.true c.in-Some.ensures.entry))

pub loop-library-preserved : goal.loop-library-preserved
loop-library-preserved c =
    let lib = opened_file c.args.order (get_or c.args.libs.now c.loop-library.library no_file).now
    in
    let has : has_entry c.args.order c.args.name lib ≡ false =
    any_found (is_named c.args.order c.args.name lib) slots
    ∙ ap is_some (sym c.in_default.ensures.entry) in
    c.loop-library.invariant ∙ chosen_later c.args.order c.args.name c.args.libs.now
    c.loop-library.library c.loop-library-test.true has
