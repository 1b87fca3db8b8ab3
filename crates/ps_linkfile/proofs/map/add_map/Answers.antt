use Rattle.std.proofs.Common.{◌≡◌, ◌+◌, ap, rules}
use Rattle.ps_linkfile.proofs.Vocabulary.{all_blocks}
use Rattle.ps_linkfile.specs.MapText.{definition_row, last_row, private_row}
use Rattle.ps_writing.specs.Rows.{rows_in, values_in}
use Rattle.ps_writing.proofs.Written.{adds_is, ◌⨾◌}
use Rattle.ps_linkfile.proofs.map.add_map.Goals as goal

pub returns : goal.returns
returns g c =
    let plan = c.args.plan.now in
    let form = c.args.form in
    let defined : c.definitions.result.now ≡ plan.definitions = search rules in
    let allotted : c.privates.result.now ≡ plan.privates = search rules in
    let laid : c.lay_out-layout.result.blocks ≡ 1 + all_blocks plan.sources = search rules in
    c.add_by_form.ensures ⨾ c.add_segments.ensures ⨾ c.add_by_form-2.ensures
    ⨾ adds_is (ap (λ ds. rows_in form definition_row ds) defined) c.add_definitions.ensures
    ⨾ c.add_by_form-3.ensures
    ⨾ adds_is (ap (λ ps. rows_in form private_row ps) allotted) c.add_privates.ensures
    ⨾ c.add_by_form-4.ensures
    ⨾ adds_is (ap (λ n. values_in form (last_row plan.next_free plan.data_size n)) laid)
    c.add_last.ensures ⨾ c.add_by_form-5.ensures
