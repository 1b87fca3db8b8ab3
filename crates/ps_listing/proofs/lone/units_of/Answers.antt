use Rattle.ps_listing.proofs.Vocabulary.{◌∙◌, SLOTS, Some, refl, sym, arith, lone_unit, units_of}
use Rattle.ps_listing.proofs.ListLemmas.{no_more, none_more, of_error, one_more, some_found}
use Rattle.ps_listing.proofs.lone.units_of.Goals.{in-Some+in_ok-push, in_default}
use Rattle.ps_listing.proofs.lone.units_of.Goals as goal

pub loop-slot-init : goal.loop-slot-init
loop-slot-init g c = rw c.new-units.ensures.items refl

pub loop-slot-preserved : goal.loop-slot-preserved
loop-slot-preserved g c =
    let l = c.loop-slot in
    let f = lone_unit c.args.file.now in
    let all = units_of c.args.file.now in
    let lt = c.loop-slot-test.true in
    let found = sym c.in_ok-unit.ensures.unit in
    elim c.match-branch-2.branch [
      | in-Some+in_ok-push w ↦ rw (w.units-is, w.in_ok-push.ensures.items)
          (one_more f all l.units.items SLOTS l.slot (Some w.in-Some.unit) lt
          (found ∙ w.in-Some.is) l.invariant)
      | in_default w ↦ rw w.units-is (none_more f all l.units.items SLOTS l.slot lt
          (found ∙ w.in_default.is) l.invariant)
    ]

pub returns-clause-units : goal.returns-clause-units
returns-clause-units g c = sym (no_more (lone_unit c.args.file.now)
    (units_of c.args.file.now) c.loop-slot.units.items SLOTS c.loop-slot.slot
    (omega (arith, c.loop-slot-test.false)) c.loop-slot.invariant)

pub returns-in_err-unit-clause-memory : goal.returns-in_err-unit-clause-memory
returns-in_err-unit-clause-memory g c =
    let f = lone_unit c.args.file.now in
    let l = c.loop-slot in
    of_error c.from_residual.result (some_found f (units_of c.args.file.now) l.units.items SLOTS
    l.slot (f l.slot) c.loop-slot-test.true refl c.in_err-unit.ensures.there l.invariant)

pub returns-in_err-push-clause-memory : goal.returns-in_err-push-clause-memory
returns-in_err-push-clause-memory g c =
    let l = c.loop-slot in
    of_error c.from_residual-in_err-push.result (some_found (lone_unit c.args.file.now)
    (units_of c.args.file.now) l.units.items SLOTS l.slot (Some c.in-Some.unit)
    c.loop-slot-test.true (sym c.in_ok-unit.ensures.unit ∙ c.in-Some.is) refl l.invariant)
