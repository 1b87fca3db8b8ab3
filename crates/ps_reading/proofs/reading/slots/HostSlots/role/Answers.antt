use Rattle.ps_reading.proofs.Vocabulary.{◌∙◌, List, ℕ, Result, Ok, slice_index_or, ap, arith, get_or-map-range_with_len, Reason, OpenedFile, entry_at, role_of, Role, Empty, SLOTS}
use Rattle.ps_reading.proofs.reading.slots.HostSlots.role.Goals as goal

pub returns : goal.returns
returns c =
    let dict = c.self.inside.dict in
    let slot = c.args.slot in
    ap (λ (roles : List (Result Role Reason)). slice_index_or roles slot (Ok Empty))
    c.self.invariant
    ∙ (get_or-map-range_with_len (λ (s : ℕ). role_of (entry_at dict.order dict.file s)) 0 SLOTS
    slot slot (Ok Empty) c.requires (omega arith)
    ∙ ap (λ (o : OpenedFile). role_of (entry_at o.order o.file slot)) c.self.view_is)
