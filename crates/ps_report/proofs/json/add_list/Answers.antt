use Rattle.ps_writing.proofs.Written.{◌⨾◌}
use Rattle.ps_report.specs.ReportJson.{list_json}
use Rattle.ps_report.proofs.json.add_list.Goals as goal

pub returns : goal.returns
unfolding list_json
returns g c = c.add.ensures ⨾ c.add_items.ensures ⨾ c.add-2.ensures
