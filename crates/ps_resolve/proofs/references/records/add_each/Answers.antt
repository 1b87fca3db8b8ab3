use Rattle.ps_resolve.proofs.Vocabulary.{rules, ℕ, ◌+◌, ◌++◌, ◌∙◌, sym, subst, arith, Option, append-nil, ap, option_map, err_from_is_err_and, Reason, refs_of, is_reserved, ProcedureTables, operands, refs_fault_at, in_segment, Known, IsStop, Stop, first_record_fault}
use Rattle.ps_reading.specs.declared.locations.RecordAt.{RecordAt}
use Rattle.ps_reading.proofs.NumberedRecords.{one, none}
use Rattle.ps_reading.proofs.FirstSlots.{none_mapped as map_none}
use Rattle.ps_resolve.proofs.NextRecords.{references_refused, record_stands, listed_more}
use Rattle.ps_resolve.proofs.references.records.add_each.Goals as goal
use Rattle.ps_resolve.proofs.LookingBack.{words_before}

pub overflow_add-next : goal.overflow_add-next
overflow_add-next g c =
    let r = c.in-Some.record in
    let step = one c.loop-rec.invariant.links c.in-Some.ensures.steps in
    omega (
      arith,
      step.2.words,
      words_before r step.0,
      c.words_taken-next.ensures,
      c.requires.room,
    )

pub returns-in-Err-clause-stop : goal.returns-in-Err-clause-stop
returns-in-Err-clause-stop g c =
    let l = c.loop-rec in
    let step = one l.invariant.links c.in-Some.ensures.steps in
    let first = step.2.first in
    grind arith

pub returns-in_err-add_record-in-Ok-clause-stop : goal.returns-in_err-add_record-in-Ok-clause-stop
returns-in_err-add_record-in-Ok-clause-stop g c =
    let known : Known = c.args.names.now in
    let at = c.args.place in
    let l = c.loop-rec in
    let tables = l.found.procedures in
    let r = c.in-Some.record in
    let step = one l.invariant.links c.in-Some.ensures.steps in
    let first = step.2.first in
    let fault_is = first.2
    ∙ ap (λ (t : ProcedureTables). first_record_fault known t c.args.free c.args.records.now)
    l.invariant.procedures in
    let stop : Stop = c.in_err-add_record-in-Ok.field-0.0 in
    let p = err_from_is_err_and c.from_residual.result c.from_residual.ensures.1 in
    rw (p.1, p.2) (subst (λ (o : Option (ℕ × (Option ℕ × Reason))). IsStop ⊥
    (option_map (in_segment at.file at.slot) o) stop) fault_is
    (references_refused known (is_reserved tables.order tables.code) tables.code c.in-Some.rec
    l.next first.0 r step.0 at.file at.slot c.in-Ok.target stop
    (sym c.target_of.ensures ∙ c.in-Ok.is)
    (subst (λ (p : RecordAt). IsStop ⊥
    (refs_fault_at p tables c.in-Ok.target first.0 (refs_of r.body)) stop)
    c.record-at.ensures
    (c.in_err-add_record-in-Ok.ensures.stop first.0 first.1))))

pub loop-rec-preserved : goal.loop-rec-preserved
loop-rec-preserved g c =
    let known : Known = c.args.names.now in
    let l = c.loop-rec in
    let tables = l.found.procedures in
    let R = is_reserved tables.order tables.code in
    let rec = c.in-Some.rec in
    let r = c.in-Some.record in
    let t = c.in-Ok.target in
    let is_t = sym c.target_of.ensures ∙ c.in-Ok.is in
    let step = one l.invariant.links c.in-Some.ensures.steps in
    let rest = step.0 in
    let first = step.2.first in
    let added = c.in_ok-add_record-in-Ok.ensures in
    let stands = record_stands known R tables.code rec l.next first.0 r rest t is_t
    (map_none _ _ (added.sound first.0 first.1)) in
    record {
      links = (
        rec + 1,
        rest,
        step.1,
        rw (c.words_taken-next.ensures, added.same_procedures) (record {
          table = added.table;
          listed = search (rules, listed_more);
          first = (
            first.0 ++ operands t (refs_of r.body),
            added.taken first.0 first.1,
            sym stands ∙ first.2,
          );
          words = omega (arith, step.2.words, words_before r rest);
        }),
      );
      procedures = added.same_procedures ∙ l.invariant.procedures;
    }

pub returns : goal.returns
returns g c =
    let l = c.loop-rec in
    let end = none l.invariant.links c.in-None.ensures.steps.0 in
    grind (arith, append-nil)
