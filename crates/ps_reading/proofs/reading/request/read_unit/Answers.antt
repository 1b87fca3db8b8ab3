use Rattle.ps_reading.proofs.Vocabulary.{◌∙◌, Some, sym, ap, subst, option_map, err_from_is_err_and, Segment, OpenedFile, as_requested, ArePlacedIn, IsRead, opened}
use Rattle.ps_reading.proofs.RequestedSegments.{brought_by, found_at, needs_linking, placed_by, placed_refused, read_marked}
use Rattle.ps_reading.proofs.SharedRecords.{placed_in}
use Rattle.ps_reading.proofs.reading.request.read_unit.Goals as goal

pub entries_reason-requires-clause-entry : goal.entries_reason-requires-clause-entry
entries_reason-requires-clause-entry c = found_at _ _ _ c.args.request.now _ _
    c.in-Some.ensures.source (c.in-Some.ensures.dict c.args.host.now.file)

pub read_segment-requires-clause-kind : goal.read_segment-requires-clause-kind
read_segment-requires-clause-kind c = λ linked. needs_linking _ _ _ c.args.request.now _ _
    c.in-Some.ensures.source (c.in-Some.ensures.dict c.args.host.now.file)
    (sym c.entries_reason.ensures ∙ c.in-None-entries_reason.is)

pub read_segment-requires-clause-placed : goal.read_segment-requires-clause-placed
read_segment-requires-clause-placed c =
    let host = c.args.host.now in
    subst (λ (o : OpenedFile). ArePlacedIn o.order o.file c.in-Some.at.file c.args.earlier.now)
    (sym (c.in-Some.ensures.dict host.file)) (placed_in host.order host.file
    (opened host.order c.args.libs.now) c.in-Some.at.file c.args.earlier.now c.requires.read)

pub returns-in-Some-entries_reason-clause-fault : goal.returns-in-Some-entries_reason-clause-fault
returns-in-Some-entries_reason-clause-fault c =
    rw c.in_slot.ensures (sym (placed_refused _ _ _ c.args.request.now _ _
    c.in-Some.ensures.source (c.in-Some.ensures.dict c.args.host.now.file)
    c.in-Some-entries_reason.reason (sym c.in-Some.ensures.missing)
    (sym c.entries_reason.ensures ∙ c.in-Some-entries_reason.is)))

pub returns-in_err-segment-in-None-entries_reason :
    goal.returns-in_err-segment-in-None-entries_reason
returns-in_err-segment-in-None-entries_reason c =
    let dict = c.in-Some.ensures.dict c.args.host.now.file in
    let p = err_from_is_err_and c.from_residual.result c.from_residual.ensures.1 in
    rw (p.1, p.2) (record {
      fault = c.in_err-segment-in-None-entries_reason.ensures.fault _ _
          (sym (ap (λ (o : OpenedFile). o.file) dict))
          ∙ placed_by _ _ _ c.args.request.now _ _ c.in-Some.ensures.source dict
          (sym c.in-Some.ensures.missing)
          (sym c.entries_reason.ensures ∙ c.in-None-entries_reason.is);
      segment = tt;
      read = tt;
    })

pub returns-in_ok-segment-in-None-entries_reason : goal.returns-in_ok-segment-in-None-entries_reason
returns-in_ok-segment-in-None-entries_reason c =
    let host = c.args.host.now in
    let r = c.args.request.now in
    let libs = opened host.order c.args.libs.now in
    let dict = c.in-Some.ensures.dict host.file in
    let file = sym (ap (λ (o : OpenedFile). o.file) dict) in
    let read = c.in_ok-segment-in-None-entries_reason in
    let requested = sym c.as_requested.ensures in
    record {
      fault = read.ensures.fault host.file libs file
          ∙ placed_by _ _ _ r _ _ c.in-Some.ensures.source dict (sym c.in-Some.ensures.missing)
          (sym c.entries_reason.ensures ∙ c.in-None-entries_reason.is);
      segment = brought_by _ _ _ r _ _ c.in-Some.ensures.source dict
          ∙ (ap (option_map (as_requested r.requester)) (read.ensures.segment host.file libs file)
          ∙ ap (λ (s : Segment). Some s) requested);
      read = subst (λ (s : Segment). IsRead host.order host.file libs s) requested
          (read_marked host.order host.file libs r.requester read.segment
          (subst (λ (o : OpenedFile). IsRead o.order host.file libs read.segment) dict
          (read.ensures.read host.file libs file)));
    }
