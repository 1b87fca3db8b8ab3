use Rattle.std.proofs.Common.{Some, refl, sym, ◌∙◌}
use Rattle.ps_texts.specs.UnitNames.{units_had, had_name}
use Rattle.ps_texts.proofs.SlotNames.{none_more_had, of_error, one_more_had, some_had}
use Rattle.ps_texts.proofs.units.units_had.Goals.{in-Some+in_ok-push, in_default}
use Rattle.ps_texts.proofs.units.units_had.Goals as goal

pub loop-slot-init : goal.loop-slot-init
unfolding units_had
loop-slot-init g c = rw c.new-names.ensures.items refl

pub loop-slot-preserved : goal.loop-slot-preserved
loop-slot-preserved g c =
    let l = c.loop-slot in
    let f = had_name c.args.dict.now.order c.args.dict.now.file in
    let all = units_had c.args.dict.now.order c.args.dict.now.file in
    let lt = c.loop-slot-test.true in
    let found = sym c.had_name.ensures in
    elim c.match-had_name.branch [
      | in-Some+in_ok-push w ↦ rw (w.names-is, w.in_ok-push.ensures.items)
          (one_more_had f all l.names.items l.slot (Some w.in-Some.name) lt
          (found ∙ w.in-Some.is) l.invariant)
      | in_default w ↦ rw w.names-is (none_more_had f all l.names.items l.slot lt
          (found ∙ w.in_default.is) l.invariant)
    ]

pub returns-in_err-push-clause-memory : goal.returns-in_err-push-clause-memory
returns-in_err-push-clause-memory g c =
    let l = c.loop-slot in
    of_error c.from_residual.result (some_had (had_name c.args.dict.now.order c.args.dict.now.file)
    (units_had c.args.dict.now.order c.args.dict.now.file) l.names.items l.slot c.in-Some.name
    c.loop-slot-test.true (sym c.had_name.ensures ∙ c.in-Some.is) l.invariant)
