use Rattle.ps_resolve.proofs.Vocabulary.{◌≤◌, ◌∙◌, ℕ, List, length, sym, ap, subst, HostFiles, order_of, segments, slot_names}
use Rattle.ps_resolve.proofs.Lengths.{lengths}
use Rattle.ps_resolve.proofs.WholeReadings.{all_of_link, plan_of, were_read, whole_of}
use Rattle.ps_reading.proofs.ReadingSlots.{host_ok}
use Rattle.ps_resolve.proofs.from_reading.resolve_host.Goals as goal

pub link_read-requires : goal.link_read-requires
link_read-requires g c =
    let files = c.args.reading.now in
    let read = c.segments-segments.ensures in
    rw (c.file-file.ensures, c.libs.ensures) (were_read files.host files.libs c.args.host.now
    c.requires c.order.result c.segments-segments.result.now c.fault.result c.order.ensures
    c.fault.ensures (λ _. read.all) read.read read.few)

pub invariant_of-result : goal.invariant_of-result
invariant_of-result g c =
    let host : List ℕ = c.args.reading.now.host in
    let libs : List (List ℕ) = c.args.reading.now.libs in
    let v : HostFiles = c.args.host.now in
    let links = c.in_ok-links.ensures in
    let are = rw (c.file-file.ensures, c.libs.ensures) at links.links in
    let all = all_of_link host libs v c.requires c.fault.result c.fault.ensures links.faultless
    c.copied.result.items (c.copied.ensures ∙ c.segments-segments.ensures.all) in (
      lengths (order_of host) (segments (order_of host) host libs) c.in_ok-links.links.edits
          are.edits ∙ ap length (sym all),
      subst (λ (bytes : List ℕ). 512 ≤ length bytes) (sym c.file-file.ensures)
          (whole_of host (record { order = v.order; file = v.file })
          (sym (host_ok host libs v c.requires).0)),
    )

pub returns-clause-plan : goal.returns-clause-plan
returns-clause-plan g c =
    let host : List ℕ = c.args.reading.now.host in
    let libs : List (List ℕ) = c.args.reading.now.libs in
    let v : HostFiles = c.args.host.now in
    let links = c.in_ok-links.ensures in
    let read = c.copied.ensures ∙ c.segments-segments.ensures.all in
    let all = all_of_link host libs v c.requires c.fault.result c.fault.ensures links.faultless
    c.copied.result.items read in
    plan_of host libs v c.requires c.in_ok-links.links
    (rw (c.file-file.ensures, c.libs.ensures) at links.links) c.file-file.result.now
    c.file-file.ensures c.copied.result.items all c.slot_names.result
    (c.slot_names.ensures ∙ ap (slot_names v.file) (sym read))
