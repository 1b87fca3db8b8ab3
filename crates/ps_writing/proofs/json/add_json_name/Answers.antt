use Rattle.ps_writing.proofs.Written.{◌⨾◌}
use Rattle.ps_writing.proofs.json.add_json_name.Goals as goal

pub returns : goal.returns
returns g c = c.add.ensures
    ⨾ c.add_bytes.ensures ⨾ c.add-2.ensures ⨾ c.add_hex.ensures ⨾ c.add-3.ensures
