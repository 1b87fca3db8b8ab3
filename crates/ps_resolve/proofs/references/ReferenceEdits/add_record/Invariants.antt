use Rattle.ps_resolve.proofs.Vocabulary.{◌≡◌, ℕ, ◌++◌, List, map, take, drop, IsPermutation, IsTableOf, edits_of, edit_of, refs_fault, operands, AreTaken, is_reserved}
use Rattle.ps_resolve.proofs.references.ReferenceEdits.add_record.Given as goal

-- the edits so far are those of the references so far, whose operands are marked; the first fault
-- of what is left is that of all
abbrev pub invariant-loop-i : goal.invariant-loop-i
invariant-loop-i g l =
    let tables = l.self.procedures in
    let old = l.fn.self in
    let fault_from = refs_fault (is_reserved tables.order tables.code) tables.code l.target in
    record {
      same_procedures : tables ≡ old.procedures;
      table : IsTableOf tables.code l.self.edits.states.items;
      edits : IsPermutation (edits_of old.edits.states.items
          ++ map (edit_of tables.code l.target) (take l.i l.refs))
          (edits_of l.self.edits.states.items);
      fault : (os : List (ℕ × ℕ)) → AreTaken tables old.edits.states.items os
          → fault_from l.i (os ++ operands l.target (take l.i l.refs)) (drop l.i l.refs)
          ≡ fault_from 0 os l.refs;
      taken : (os : List (ℕ × ℕ)) → AreTaken tables old.edits.states.items os
          → AreTaken tables l.self.edits.states.items (os ++ operands l.target (take l.i l.refs));
    }
