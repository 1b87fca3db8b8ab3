use Rattle.ps_resolve.proofs.Vocabulary.{◌≡◌, ◌∷◌, [], rules, ℕ, List, map, arith, refl, sym, subst, ap, IfOk-weaker, AscendFrom, FollowOn, Allotted, allotment_of, owner_of_linkage}
use Rattle.ps_resolve.specs.declared.linkage.Linkage.{Linkage}
use Rattle.ps_resolve.proofs.Builders.{distinct_names, room, not_allotted, by_record, requested, summed}
use Rattle.ps_resolve.proofs.PrivatesFollow.{follow}
use Rattle.ps_resolve.proofs.PrivatesRise.{rise}
use Rattle.ps_resolve.proofs.allotment.Allotment.build.Goals as goal

-- the slots of the owners are those of the segments
same_slots : (segments : List Linkage)
    → map (λ s. s.slot) segments ≡ map (λ s. s.0.slot) (map owner_of_linkage segments)
same_slots [] = refl
same_slots (s ∷ segments) = ap (λ (slots : List ℕ). s.slot ∷ slots) (same_slots segments)

pub of_segments-requires : goal.of_segments-requires
of_segments-requires g c = subst (AscendFrom 0) (same_slots c.args.segments.now) c.requires

pub returns : goal.returns
returns g c =
    let next : ℕ = c.args.next in
    let ss = map owner_of_linkage c.args.segments.now in
    let made = c.of_segments in
    -- what holds of the allotment of the segments holds of this one
    let ascending = subst (AscendFrom 0) (same_slots c.args.segments.now) c.requires in
    let found = λ (P : Allotted → Type 0)
    (h : P (allotment_of next ss)). IfOk-weaker made.result _ P
    (λ a is. subst P (sym is) h) made.ensures.found in
    record {
      names = search (rules, IfOk-weaker, distinct_names);
      room = search (rules, IfOk-weaker, room);
      refused = grind (arith, not_allotted);
      requested = grind (arith, requested);
      rising = search (rules, by_record, rise);
      follow = found (λ a. FollowOn next a.privates) (follow next ss);
      total = grind (arith, summed);
      end = grind (arith, summed);
      found = made.ensures.found;
      once = made.ensures.once;
      stop = made.ensures.stop;
    }
