use Rattle.ps_writing.proofs.Written.{◌⨾◌}
use Rattle.ps_report.specs.ReportJson.{segment_json}
use Rattle.ps_report.proofs.reference_json.add_segment.Goals as goal

pub returns : goal.returns
unfolding segment_json
returns g c = c.add.ensures ⨾ c.add_json_text.ensures ⨾ c.add-2.ensures
    ⨾ c.add_name_or_null.ensures ⨾ c.add_number.ensures ⨾ c.add_number-2.ensures
    ⨾ c.add_number-3.ensures ⨾ c.add-3.ensures
