use Rattle.ps_reading.proofs.Vocabulary.{◌≡◌, ◌∙◌, ℕ, List, Bor, Option, ap, Fault, OpenedFile, first_of, contents, opened_files, HostFiles}
use Rattle.ps_reading.proofs.ReadingSlots.{own_is, units_last}
use Rattle.ps_reading.proofs.ReadingSources.{first_of_slots, table_of_slots}
use Rattle.ps_reading.proofs.reading.HostReading.of.Goals as goal

files_of : (libs : List (Bor (List ℕ))) (a b : OpenedFile) → a ≡ b
    → ◌≡◌ {A = HostFiles} (record { order = a.order; file = a.file; libs = contents libs })
    (record { order = b.order; file = b.file; libs = contents libs })
files_of libs a b e = ap (λ (o : OpenedFile). record
    { order = o.order; file = o.file; libs = contents libs }) e

pub returns : goal.returns
returns c = files_of c.args.libs.now c.of-slots.result c.args.dict c.of-slots.ensures

pub invariant_of-result : goal.invariant_of-result
invariant_of-result c =
    let host = c.of-slots.result in
    let libs = contents c.args.libs.now in
    let added = c.read_added-added in
    let faults = table_of_slots host.order host.file (opened_files host.order libs)
    c.read_slots.new.faults c.read_slots.ensures.faults.0 c.read_slots.ensures.faults.1 in
    record {
      whole = rw c.of-slots.ensures c.requires;
      slots_left = added.ensures.empty;
      all = added.ensures.all;
      read = added.ensures.read;
      faults = faults;
      requested = added.ensures.requested;
      following = added.ensures.following;
      ends = added.ensures.ends;
      first = c.or-fault.ensures ∙ units_last host.order host.file libs c.or-own.result
          added.result.fault (own_is host.order host.file libs c.files_fault.result
          c.first_fault.result c.or-own.result c.or-own.ensures c.files_fault.ensures
          (c.first_fault.ensures ∙ (ap (first_of (λ (fault : Option Fault). fault)) faults
          ∙ first_of_slots host.order host.file (opened_files host.order libs)))) added.ensures.ends;
    }
