use Rattle.ps_resolve.proofs.Vocabulary.{rules, ◌≡◌, ℕ, ◌<◌, ◌≤◌, ◌+◌, ◌++◌, ◌∙◌, List, length, take, ap, arith, append_assoc, get_or, Edit, edits_of, put_in, PlaceState, edit_of, operands, width_of}
use Rattle.ps_resolve.proofs.TakenPlaces.{map_one, operands_one, fault_one, operand_put, operand_table, taken_more}
use Rattle.ps_resolve.proofs.references.ReferenceEdits.add_record.Goals as goal

pub loop-i-preserved : goal.loop-i-preserved
loop-i-preserved g c =
    let tables = c.loop-i.self.procedures in
    let code = tables.code in
    let t = c.args.target in
    let refs = c.in-Some.refs.now in
    let i = c.loop-i.i in
    let within : i < length refs = omega arith in
    let x : c.get-x.result ≡ get_or refs i 0 = c.get-x.ensures in
    let inv = c.loop-i.invariant in
    let ts : List PlaceState = c.loop-i.self.edits.states.items in
    let so_far : List (ℕ × ℕ) → List (ℕ × ℕ) = λ os. os ++ operands t (take i refs) in
    let inside : c.get-x.result + width_of t ≤ length code = c.in-Ok.ensures.inside in
    let put : c.put.new.self.states.items ≡ put_in ts (edit_of code t c.get-x.result) =
    c.put.ensures ∙ ap (put_in ts) c.in-Ok.ensures.edit in
    let old : List Edit = edits_of c.args.self.now.edits.states.items in
    record {
      same_procedures = inv.same_procedures;
      table = rw put (operand_table code t c.get-x.result ts inv.table inside c.in-Ok.ensures.free);
      edits = search (rules, map_one, append_assoc, operand_put);
      fault = grind (arith, fault_one);
      taken = search (rules, operands_one, taken_more);
    }
