use Rattle.ps_resolve.proofs.Vocabulary.{◌≡◌, [], ◌∷◌, List, map, Some, refl, sym, ◌∙◌, ap, arith, err_from_is_err_and, Edit, Order, Segment, host_of, definitions, Allotted, AreSegments}
use Rattle.ps_resolve.specs.declared.host_segment.HostSegment.{HostSegment}
use Rattle.ps_resolve.proofs.AllSegments.{slots_are}
use Rattle.ps_resolve.proofs.LinkingFaults.{records_are, definitions_stop, privates_stop, words_are, allotment_is, size_stop, references_stop, none_stands, all_linked}
use Rattle.ps_resolve.proofs.linking.link_segments.Goals as goal

-- the host's own segment, with the records that are lent beside it
abbrev own_of : HostSegment → Segment
own_of h = record h.segment.now { records = h.records.now }

found_own : {order : Order} {own : HostSegment} {ss : List Segment} → AreSegments order own ss
    → host_of ss ≡ Some (own_of own)
found_own {order} {own} h = grind arith

pub returns-in_err-definitions-clause-stop : goal.returns-in_err-definitions-clause-stop
returns-in_err-definitions-clause-stop g c =
    grind (arith, found_own, err_from_is_err_and, definitions_stop)

pub of_segments-requires : goal.of_segments-requires
of_segments-requires g c = grind (arith, slots_are)

pub returns-in_err-allotment-clause-stop : goal.returns-in_err-allotment-clause-stop
returns-in_err-allotment-clause-stop g c =
    grind (arith, found_own, err_from_is_err_and, privates_stop)

pub returns-in_err-size-clause-stop : goal.returns-in_err-size-clause-stop
returns-in_err-size-clause-stop g c =
    let is = found_own c.segments.invariant in
    let p = err_from_is_err_and c.from_residual-in_err-size.result
    c.from_residual-in_err-size.ensures.1 in
    let ds = c.in_ok-definitions.ensures in
    let a = c.in_ok-allotment.ensures in
    grind (
      arith,
      size_stop c.segments.inside.order c.segments.inside.items.now is ds.found ds.once
          c.next-base.ensures a.found a.once c.words.ensures c.in_err-size.field-0.0
          c.in_err-size.ensures.stop,
    )

pub returns-in_err-edits-clause-stop : goal.returns-in_err-edits-clause-stop
returns-in_err-edits-clause-stop g c =
    let is = found_own c.segments.invariant in
    let p = err_from_is_err_and c.from_residual-in_err-edits.result
    c.from_residual-in_err-edits.ensures.1 in
    let ds = c.in_ok-definitions.ensures in
    let a = c.in_ok-allotment.ensures in
    rw (p.1, p.2, ← c.segments.view_is)
    (references_stop c.segments.inside.order c.segments.inside.items.now is ds.found ds.once
    c.next-base.ensures a.found a.once c.words.ensures c.in_ok-size.ensures.fits
    refl c.in_err-edits.field-0.0 c.in_err-edits.ensures.stop)

pub returns-clause-links : goal.returns-clause-links
returns-clause-links g c =
    let known = c.segments.invariant in
    let is = found_own known in
    let order = c.segments.inside.order in
    let ss : List Segment = c.segments.inside.items.now in
    let ds = c.in_ok-definitions.ensures in
    let a = c.in_ok-allotment.ensures in
    let size = c.in_ok-size.ensures in
    let words = words_are order ss is ds.found ds.once c.next-base.ensures a.found a.once
    c.words.ensures in
    let whole = allotment_is order ss is ds.found ds.once c.next-base.ensures a.found a.once
    c.words.ensures in
    rw (← c.segments.view_is) (record {
      order = refl;
      edits = all_linked order ss is ds.found ds.once c.next-base.ensures a.found a.once
          c.words.ensures size.fits refl known.one_host
          (size.edit ∙ ap (λ (e : Edit). e ∷ []) (sym c.edit.ensures))
          (map (λ e. e.items) c.in_ok-edits.edits.items) c.in_ok-edits.ensures.links;
      definitions = ds.found ∙ ap definitions (sym (records_are order ss is));
      privates = ap (λ (b : Allotted). b.privates) whole;
      next_free = ap (λ (b : Allotted). b.next_free) whole;
      private_words = ap (λ (b : Allotted). b.words) whole;
      data_size = grind arith;
    })

pub returns-clause-sound : goal.returns-clause-sound
returns-clause-sound g c =
    let is = found_own c.segments.invariant in
    let ds = c.in_ok-definitions.ensures in
    let a = c.in_ok-allotment.ensures in
    rw (← c.segments.view_is)
    (none_stands c.segments.inside.order c.segments.inside.items.now is ds.found ds.once
    c.next-base.ensures a.found a.once c.words.ensures c.in_ok-size.ensures.fits
    refl c.in_ok-edits.ensures.sound)
