use Rattle.ps_linkfile.proofs.Vocabulary.{ap, entry_in, Json}
use Rattle.ps_linkfile.specs.ShowJson.{slot_item}
use Rattle.ps_writing.proofs.Written.{adds_is, ◌⨾◌}
use Rattle.ps_linkfile.proofs.show_json.add_slot.Goals as goal

pub returns : goal.returns
unfolding slot_item
returns g c =
    adds_is (ap (λ e. entry_in Json c.args.slot e) c.entry.ensures) c.add_entry_item.ensures
    ⨾ c.add_links.ensures ⨾ c.add.ensures
