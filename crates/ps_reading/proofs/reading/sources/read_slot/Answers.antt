use Rattle.ps_reading.proofs.Vocabulary.{rules, arith, ◌∙◌, ℕ, List, sym, ap, subst, err_from_is_err_and, OpenedFile, Entry, segment_from, opened, code_fault, IsRead}
use Rattle.ps_reading.proofs.ReadingSources.{own_fault, read_from_host}
use Rattle.ps_reading.proofs.RequestedSegments.{wanted_is, wanted_segment}
use Rattle.ps_reading.proofs.reading.sources.read_slot.Goals as goal

pub read_segment-requires-clause-placed : goal.read_segment-requires-clause-placed
read_segment-requires-clause-placed c = grind arith

pub returns-in_err-own-in-Plain : goal.returns-in_err-own-in-Plain
returns-in_err-own-in-Plain c =
    let host = c.args.host.now in
    let libs = opened host.order c.args.libs.now in
    let dict = c.dict.ensures in
    let p = err_from_is_err_and c.from_residual.result c.from_residual.ensures.1 in
    rw (p.1, p.2) (record {
      fault = c.in_err-own-in-Plain.ensures.fault host.file libs
          (sym (ap (λ (o : OpenedFile). o.file) dict))
          ∙ (ap (λ (o : OpenedFile). code_fault o.order host.file libs c.args.slot c.in-Ok.role
          (0, c.args.slot)) dict
          ∙ sym (own_fault host.order host.file libs c.args.slot c.in-Ok.role
          (sym c.role.ensures ∙ c.in-Ok.is) c.in-Plain.is));
      segment = tt;
      read = tt;
    })

pub returns-in_ok-own-in-Plain : goal.returns-in_ok-own-in-Plain
returns-in_ok-own-in-Plain c =
    let host = c.args.host.now in
    let libs = opened host.order c.args.libs.now in
    let name = sym (ap (λ (e : Entry). e.name) c.entry.ensures) in
    let dict = c.dict.ensures in
    let file = sym (ap (λ (o : OpenedFile). o.file) dict) in
    record {
      fault = c.in_ok-own-in-Plain.ensures.fault host.file libs file
          ∙ (ap (λ (o : OpenedFile). code_fault o.order host.file libs c.args.slot c.in-Ok.role
          (0, c.args.slot)) dict
          ∙ sym (own_fault host.order host.file libs c.args.slot c.in-Ok.role
          (sym c.role.ensures ∙ c.in-Ok.is) c.in-Plain.is));
      segment = sym (read_from_host host.order host.file libs c.args.slot c.in-Ok.role
          (sym c.role.ensures ∙ c.in-Ok.is) c.in-Plain.is
          ∙ (ap (λ (n : List ℕ). segment_from host.order host.file libs c.args.slot n
          c.in-Ok.role (0, c.args.slot)) name
          ∙ (ap (λ (o : OpenedFile). segment_from o.order host.file libs c.args.slot
          c.entry.result.name c.in-Ok.role (0, c.args.slot)) (sym dict)
          ∙ c.in_ok-own-in-Plain.ensures.segment host.file libs file)));
      read = subst (λ (o : OpenedFile). IsRead o.order host.file libs c.in_ok-own-in-Plain.own)
          dict (c.in_ok-own-in-Plain.ensures.read host.file libs file);
    }

pub returns-in_err-wanted-in-Wanted : goal.returns-in_err-wanted-in-Wanted
returns-in_err-wanted-in-Wanted c = grind arith

pub returns-in_ok-wanted-in-Wanted : goal.returns-in_ok-wanted-in-Wanted
returns-in_ok-wanted-in-Wanted c = search (rules, wanted_is, wanted_segment)
