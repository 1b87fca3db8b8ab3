use Rattle.ps_listing.proofs.Vocabulary.{ap, sym, adds_is, ◌⨾◌}
use Rattle.ps_writing.specs.declared.rows.Form.{Form}
use Rattle.ps_listing.specs.ListText.{file_in}
use Rattle.ps_listing.proofs.listed_file.add_file.Goals as goal

pub returns-in-Lines : goal.returns-in-Lines
unfolding file_in
returns-in-Lines g c = adds_is
    (ap (λ (f : Form). file_in f c.args.path.now c.args.phrase.now c.args.values)
    (sym c.in-Lines.is))
    (c.add_path.ensures ⨾ c.add_order.ensures ⨾ c.add_length.ensures
    ⨾ c.add_purpose.ensures ⨾ c.add_type.ensures ⨾ c.add_fault_or_none.ensures ⨾ c.add.ensures)

pub returns-in-Json : goal.returns-in-Json
unfolding file_in
returns-in-Json g c = adds_is
    (ap (λ (f : Form). file_in f c.args.path.now c.args.phrase.now c.args.values)
    (sym c.in-Json.is))
    (c.add_path-in-Json.ensures ⨾ c.add_length-in-Json.ensures
    ⨾ c.add_type-in-Json.ensures ⨾ c.add_order-in-Json.ensures
    ⨾ c.add_purpose-in-Json.ensures ⨾ c.add_fault_or_none-in-Json.ensures ⨾ c.add-in-Json.ensures)
