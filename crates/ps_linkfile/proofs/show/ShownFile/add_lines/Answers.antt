use Rattle.ps_linkfile.proofs.Vocabulary.{◌≡◌, ◌∙◌, ap}
use Rattle.ps_linkfile.proofs.Shows.{shown_is}
use Rattle.ps_linkfile.specs.ShowText.{order_shown, show_of}
use Rattle.ps_writing.proofs.Written.{adds_is, ◌⨾◌}
use Rattle.ps_linkfile.proofs.show.ShownFile.add_lines.Goals as goal

pub returns : goal.returns
returns g c =
    let dict = c.self.inside.dict in
    let same : dict.file ≡ c.args.self.now = cc c.self.view_is in
    adds_is (shown_is dict.file (order_shown c.self.inside.order) dict c.self.invariant.order
    c.self.invariant.dict ∙ ap show_of same)
    (c.add_order.ensures ⨾ c.add_slots.ensures ⨾ c.add_all_links.ensures)
