use Rattle.ps_reading.proofs.Vocabulary.{rules, ◌≡◌, ◌∙◌, ℕ, sym, contents, opened_files, HostFiles}
use Rattle.ps_reading.specs.Readings.{slot_request}
use Rattle.ps_reading.proofs.Requested.{of_other}
use Rattle.ps_reading.proofs.reading.names.ReadNames.request.Goals as goal

seen : (a b : HostFiles) (slot : ℕ) → a ≡ b
    → slot_request a.order a.file (opened_files a.order a.libs) slot
    ≡ slot_request b.order b.file (opened_files b.order b.libs) slot
seen a b slot e = search rules

pub returns : goal.returns
returns c =
    let host = c.self.inside.slots.now in
    let files = opened_files host.order (contents c.self.inside.libs.now) in
    c.own_request.ensures
    ∙ (sym (of_other host.order host.file files c.args.slot
    (sym c.is_empty.ensures ∙ c.if-is_empty.false)) ∙ seen _ _ c.args.slot c.self.view_is)
