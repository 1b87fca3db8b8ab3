use Rattle.ps_writing.proofs.Written.{adds_none, ◌⨾◌}
use Rattle.ps_linkfile.proofs.show_json.add_entry_item.Goals as goal

pub returns : goal.returns
returns g c = c.begin_row.ensures
    ⨾ (c.add_part.ensures ⨾ (c.add_part-2.ensures ⨾ (c.add_part-3.ensures
    ⨾ (c.add_part-4.ensures ⨾ (c.add_part-5.ensures ⨾ adds_none)))))
    ⨾ adds_none
