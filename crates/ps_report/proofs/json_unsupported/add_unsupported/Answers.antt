use Rattle.ps_writing.proofs.Written.{◌⨾◌}
use Rattle.ps_report.specs.UnsupportedJson.{unsupported_json}
use Rattle.ps_report.proofs.json_unsupported.add_unsupported.Goals as goal

pub returns : goal.returns
unfolding unsupported_json
returns g c = c.add.ensures ⨾ c.add_items.ensures ⨾ c.add-2.ensures
