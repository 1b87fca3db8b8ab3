use Rattle.ps_writing.proofs.Written.{◌⨾◌}
use Rattle.ps_report.proofs.json.add_summary.Goals as goal

pub returns : goal.returns
returns g c = c.add_number.ensures ⨾ c.add_number-2.ensures ⨾ c.add_number-3.ensures
    ⨾ c.add.ensures
