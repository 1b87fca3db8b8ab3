use Rattle.std.proofs.Common.{◌∙◌, sym}
use Rattle.ps_reading.specs.Sources.{contents}
use Rattle.ps_reading.proofs.NamesRead.{read_by_entry}
use Rattle.ps_reading.proofs.fault_names.name_of_slot.Goals as goal

pub returns-in-Some : goal.returns-in-Some
returns-in-Some c =
    sym (read_by_entry c.args.host.now (contents c.args.libs.now) c.args.slot c.in-Some.name
    (sym c.entry_name.ensures ∙ c.in-Some.is))
