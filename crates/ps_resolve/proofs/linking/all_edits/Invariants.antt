use Rattle.ps_resolve.proofs.Vocabulary.{◌≡◌, ℕ, ◌+◌, ◌++◌, ◌∷◌, [], List, map, take, drop, true, All, Edit, references_fault_from, data_edits, edited_from, LinkSegments, owner_of, all_words, HaveTargets, is_host}
use Rattle.ps_resolve.proofs.linking.all_edits.Given as goal

-- the edits so far and those of the segments that are left link all; so it is with words, and with
-- the first fault
abbrev pub invariant-loop-index : goal.invariant-loop-index
invariant-loop-index g l =
    let all = l.segments in
    let rest = drop l.index l.segments in
    record {
      words : l.free + all_words (map owner_of rest) ≡ l.base + all_words (map owner_of all);
      first : references_fault_from l.link.order l.link.names.now l.free rest
          ≡ references_fault_from l.link.order l.link.names.now l.base all;
      links : (words : ℕ) → All (λ s. is_host s.role ≡ true
          → data_edits l.link.order words s.code ≡ l.link.size ∷ []) all
          → (behind : List (List Edit)) → LinkSegments l.link.order
          (edited_from l.link.order l.link.names.now words l.free rest) behind
          → LinkSegments l.link.order (edited_from l.link.order l.link.names.now words l.base all)
          (map (λ e. e.items) l.edits.items ++ behind);
      named : All (λ s. HaveTargets l.link.names.now s.records) (take l.index l.segments);
    }
