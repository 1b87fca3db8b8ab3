use Rattle.ps_resolve.proofs.Vocabulary.{rules, ◌≡◌, ℕ, ◌<◌, ◌∷◌, [], List, length, map, get_or, true, sym, subst, arith, append-nil, All-take, err_from_is_err_and, Edit, Order, is_reserved, is_host, data_edits, edited_from, Known, HaveTargets, Segment, IsLike}
use Rattle.ps_resolve.proofs.AllSegments.{room_at, stop_at, words_on, first_on, links_on, none_left}
use Rattle.ps_reading.proofs.FirstSlots.{none_mapped}
use Rattle.ps_reading.proofs.NextItems.{map_push}
use Rattle.ps_reading.proofs.SharedRecords.{all_taken}
use Rattle.ps_resolve.proofs.KnownTargets.{have_targets}
use Rattle.ps_resolve.proofs.linking.all_edits.Goals as goal

pub segment_edits-requires : goal.segment_edits-requires
segment_edits-requires g c =
    let ss : List Segment = c.args.segments.now in
    let lt : c.loop-index.index < length ss = omega arith in
    let v : Segment = c.index-segments-index.result in
    let is = c.index-segments-index.is in
    record {
      sound = rw is (c.requires.sound _ v lt);
      room = search (rules, room_at);
      table = rw is (c.requires.table _ v lt);
      alike = All-take (IsLike v) _ ss (rw is (c.requires.alike _ v lt));
      named = c.loop-index.invariant.named;
    }

pub returns-in_err-found-clause-stop : goal.returns-in_err-found-clause-stop
returns-in_err-found-clause-stop g c = grind (arith, err_from_is_err_and, stop_at)

pub loop-index-preserved : goal.loop-index-preserved
loop-index-preserved g c =
    let order : Order = c.args.link.now.order in
    let known : Known = c.args.link.now.names.now in
    let size : Edit = c.args.link.now.size in
    let ss : List Segment = c.args.segments.now in
    let i : ℕ = c.loop-index.index in
    let lt : i < length ss = omega arith in
    let v : Segment = c.index-segments-index.result in
    let is : v ≡ get_or ss i v = c.index-segments-index.is in
    let inv = c.loop-index.invariant in
    let found = c.in_ok-found.ensures in
    record {
      words = words_on order known ss i v lt is _ _ found.end _ inv.words;
      first = first_on order known ss i v lt is _ _ found.end _ inv.first found.sound;
      links = λ words all behind h. rw (c.in_ok-push.ensures.items, map_push)
          (links_on _ _ ss i v lt is _ _ found.end words
          (edited_from order known words c.args.base ss)
          (map (λ e. e.items) c.loop-index.edits.items) c.in_ok-found.found.items
          (found.links words
          (subst (λ (s : Segment). is_host s.role ≡ true
          → data_edits order words s.code ≡ size ∷ []) (sym is) (all i v lt)))
          (inv.links words all) behind h);
      named = all_taken (λ (s : Segment). HaveTargets known s.records) i ss v lt is inv.named
          (have_targets known (is_reserved order v.code) v.code v.records 0 _ []
          (none_mapped _ _ found.sound));
    }

pub returns-clause-links : goal.returns-clause-links
returns-clause-links g c = λ words all.
    let ss : List Segment = c.args.segments.now in
    let i : ℕ = c.loop-index.index in
    let past = none_left c.args.link.now.order c.args.link.now.names.now words c.loop-index.free i
    ss (omega arith) in
    let linked = c.loop-index.invariant.links words all [] past in
    rw append-nil at linked
