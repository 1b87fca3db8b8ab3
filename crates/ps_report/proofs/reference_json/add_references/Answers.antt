use Rattle.ps_writing.proofs.Written.{◌⨾◌}
use Rattle.ps_report.specs.ReportJson.{references_json}
use Rattle.ps_report.proofs.reference_json.add_references.Goals as goal

pub returns : goal.returns
unfolding references_json
returns g c = c.add.ensures ⨾ c.add_items.ensures ⨾ c.add-2.ensures
