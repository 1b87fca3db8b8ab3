use Rattle.ps_linkfile.proofs.Vocabulary.{◌≡◌, ◌∙◌, ap}
use Rattle.ps_linkfile.proofs.Shows.{json_is}
use Rattle.ps_linkfile.specs.ShowJson.{show_json_of}
use Rattle.ps_linkfile.specs.ShowText.{order_shown}
use Rattle.ps_writing.proofs.Written.{adds_is, ◌⨾◌}
use Rattle.ps_linkfile.proofs.show.ShownFile.add_document.Goals as goal

pub returns : goal.returns
returns g c =
    let dict = c.self.inside.dict in
    let same : dict.file ≡ c.args.self.now = cc c.self.view_is in
    adds_is (json_is dict.file (order_shown c.self.inside.order) dict c.self.invariant.order
    c.self.invariant.dict ∙ ap show_json_of same)
    (c.add_order_member.ensures ⨾ c.add_slot_items.ensures ⨾ c.add.ensures)
