use Rattle.ps_writing.proofs.Written.{◌⨾◌}
use Rattle.ps_report.proofs.json.add_verdict.Goals as goal

pub returns-in-Refused : goal.returns-in-Refused
returns-in-Refused g c = rw c.in-Refused.is (c.add.ensures ⨾ c.add_json_fault.ensures)
