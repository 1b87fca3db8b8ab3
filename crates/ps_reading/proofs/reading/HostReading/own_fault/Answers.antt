use Rattle.ps_reading.proofs.Vocabulary.{◌∙◌, List, Option, None, slice_index_or, ap, arith, get_or-map-range_with_len, Fault, HostFiles, contents, opened_files, source_fault, SLOTS}
use Rattle.ps_reading.specs.Readings.{own_faults}
use Rattle.ps_reading.proofs.reading.HostReading.own_fault.Goals as goal

pub returns : goal.returns
unfolding own_faults
returns c =
    let o = c.self.inside.slots in
    let files = opened_files o.order (contents c.self.inside.libs.now) in
    let slot = c.args.slot in
    ap (λ (faults : List (Option Fault)). slice_index_or faults slot None)
    c.self.invariant.faults
    ∙ (get_or-map-range_with_len (source_fault o.order o.file files) 0 SLOTS slot slot None
    c.requires (omega arith)
    ∙ ap (λ (v : HostFiles). source_fault v.order v.file (opened_files v.order v.libs) slot)
    c.self.view_is)
