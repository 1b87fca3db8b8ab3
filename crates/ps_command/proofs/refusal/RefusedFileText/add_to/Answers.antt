use Rattle.ps_writing.proofs.Written.{◌⨾◌}
use Rattle.ps_command.proofs.refusal.RefusedFileText.add_to.Goals as goal

pub returns : goal.returns
returns g c = c.add.ensures
    ⨾ c.add_json_text.ensures ⨾ c.add-2.ensures ⨾ c.add_out.ensures ⨾ c.add-3.ensures
    ⨾ c.add_json_fault.ensures ⨾ c.add-4.ensures
