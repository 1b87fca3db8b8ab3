use Rattle.ps_resolve.proofs.Vocabulary.{◌≡◌, ◌∙◌, ℕ, List, length, Ok, refl, sym, ap, OpenedFile, opened_alone, opened_host, order_of, contents, segments, slot_names}
use Rattle.ps_reading.specs.Readings.{with_libraries}
use Rattle.ps_resolve.proofs.Lengths.{lengths}
use Rattle.ps_resolve.proofs.WholeReadings.{all_of_link, plan_of, were_read, whole_of}
use Rattle.ps_resolve.proofs.resolving.resolve_opened.Goals as goal

-- a host that was opened, with its libraries
opened_is : (host : List ℕ) (libs : List (List ℕ)) {slots dict : OpenedFile} → slots ≡ dict
    → Ok dict ≡ opened_alone host → opened_host host libs ≡ Ok (with_libraries slots libs)
opened_is host libs {slots} {dict} same h = rw (same, ← h, opened_host) refl

pub link_read-requires : goal.link_read-requires
link_read-requires g c =
    let host : List ℕ = c.args.host.now in
    let libs = contents c.args.libs.now in
    let read = c.read_to_fault-fault.ensures in
    let is = c.as_slice.ensures.value in
    rw is (were_read host libs _ (opened_is host libs c.of-slots.ensures c.requires) _ _ _
    c.order.ensures read.first read.all read.read (rw (← is) c.as_slice.ensures.fits))

pub invariant_of-result : goal.invariant_of-result
invariant_of-result g c =
    let host : List ℕ = c.args.host.now in
    let libs = contents c.args.libs.now in
    let read = c.read_to_fault-fault.ensures in
    let links = c.in_ok-links.ensures in
    let all = all_of_link host libs _ (opened_is host libs c.of-slots.ensures c.requires) _
    read.first links.faultless _ (read.all links.faultless) in (
      lengths (order_of host) (segments (order_of host) host libs) c.in_ok-links.links.edits
          links.links.edits ∙ ap length (sym all),
      whole_of host c.args.dict c.requires,
    )

pub returns-clause-plan : goal.returns-clause-plan
returns-clause-plan g c =
    let host : List ℕ = c.args.host.now in
    let libs = contents c.args.libs.now in
    let opened = opened_is host libs c.of-slots.ensures c.requires in
    let read = c.read_to_fault-fault.ensures in
    let links = c.in_ok-links.ensures in
    let all = all_of_link host libs _ opened _ read.first links.faultless _
    (read.all links.faultless) in
    plan_of host libs _ opened c.in_ok-links.links links.links host refl _ all
    c.slot_names-names.result (c.slot_names-names.ensures
    ∙ ap (slot_names c.of-slots.result.file) c.as_slice-2.ensures.value)
