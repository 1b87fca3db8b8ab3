use Rattle.ps_resolve.proofs.Vocabulary.{◌≡◌, ◌+◌, ◌++◌, ◌∷◌, [], ◌∙◌, ℕ, List, Option, None, map, drop, sym, subst, ap, arith, refl, all_allotted, append-nil, drop_all, Record, Owner, Private, allotted_privates, private_words, private_fault}
use Rattle.std.specs.Option.{unwrap_or}
use Rattle.ps_resolve.proofs.AllottedPrivates.{AllotsAll, segment_on, segment_passed}
use Rattle.ps_reading.proofs.NextItems.{drop_at}
use Rattle.ps_resolve.proofs.allotment.allot_all.Goals as goal
use Rattle.ps_resolve.proofs.allotment.allot_all.Goals.{in-Some+in_ok-end, in_default}

pub loop-segment-init : goal.loop-segment-init
loop-segment-init g c =
    let all = all_allotted c.args.next (map g.S.RequestsPrivates.owner c.args.segments.now) in
    record {
      privates = ap (λ ps. ps ++ all) c.new-privates.ensures.items;
      words = refl;
      first = refl;
    }

pub loop-segment-preserved : goal.loop-segment-preserved
loop-segment-preserved g c =
    let owner = g.S.RequestsPrivates.owner in
    let ss = c.args.segments.now in
    let i : ℕ = c.loop-segment.segment-index in
    let v = c.segment-item.result in
    let own : Owner = owner v in
    let ps : List Private = c.loop-segment.privates.items in
    let free : ℕ = c.loop-segment.end in
    let left = ap (map owner) (drop_at ss i v c.loop-segment-test.true c.segment-item.is) in
    let all : AllotsAll c.args.next (map owner ss) ps free (own ∷ map owner (drop (i + 1) ss)) =
    subst (λ (os : List Owner). AllotsAll c.args.next (map owner ss) ps free os) left
    c.loop-segment.invariant in
    let records = λ (o : Option (List Record)). unwrap_or o [] in
    elim c.match-records.branch [
      | in-Some+in_ok-end w ↦
          let rs : List Record = w.in-Some.records in
          let records_are : rs ≡ own.1 = sym (ap records w.in-Some.is) ∙ c.records.ensures in
          let added = w.in_ok-end.ensures in
          let privates : c.match-records.privates.items
          ≡ ps ++ allotted_privates own.0.slot 0 free own.1 =
          cc (added.privates, w.place.ensures) in
          let words : c.match-records.end ≡ free + private_words own.1 = cc added.end in
          let none : private_fault 0 free [] own.1 ≡ None = cc added.once in
          segment_on own all c.match-records.privates.items c.match-records.end privates words none
      | in_default w ↦
          let none : own.1 ≡ [] = sym c.records.ensures ∙ ap records w.in_default.is in
          rw (w.privates-is, w.end-is) (segment_passed own all none)
    ]

pub returns : goal.returns
returns g c =
    let ss = c.args.segments.now in
    let past : drop c.loop-segment.segment-index ss ≡ [] =
    drop_all c.loop-segment.segment-index ss c.loop-segment-test.false in
    grind (arith, append-nil)
