use Rattle.std.proofs.Common.{List, ap}
use Rattle.ps_warnings.specs.declared.references.SegmentReferences.{SegmentReferences}
use Rattle.ps_writing.specs.JsonStrings.{json_text}
use Rattle.ps_writing.proofs.Written.{◌⨾◌, adds_is}
use Rattle.ps_report.specs.ReportJson.{references_json, report_json}
use Rattle.ps_report.specs.UnsupportedJson.{unsupported_json}
use Rattle.ps_report.proofs.Items.{same_list}
use Rattle.ps_report.proofs.json.add_report.Goals as goal

pub returns : goal.returns
unfolding report_json
returns g c =
    c.add_verdict.ensures ⨾ c.add.ensures
    ⨾ adds_is (same_list c.as_slice.ensures.value) c.add_list.ensures
    ⨾ c.add-2.ensures
    ⨾ adds_is (ap unsupported_json c.as_slice-2.ensures.value) c.add_unsupported.ensures
    ⨾ adds_is (ap (λ (s : List SegmentReferences). references_json s) c.as_slice-3.ensures.value)
    c.add_references.ensures
    ⨾ c.add-3.ensures ⨾ adds_is (ap json_text c.as_str.ensures.value) c.add_json_text.ensures
    ⨾ c.add-4.ensures
