use Rattle.std.proofs.Common.{rules}
use Rattle.ps_linkfile.proofs.Shows.{links_of_fault, links_of_records}
use Rattle.ps_writing.proofs.Written.{adds_is, ◌⨾◌}
use Rattle.ps_linkfile.proofs.show.add_links.Goals as goal

pub returns-in-Err : goal.returns-in-Err
returns-in-Err g c =
    let dict = c.args.dict.now in
    let links = links_of_fault c.args.form dict.order dict.file c.args.slot c.in-Err.reason
    (search rules) (search rules) in
    adds_is (search (rules, links)) (c.add_links_head.ensures ⨾ (c.add_by_form-in-Err.ensures
    ⨾ c.add_fault.ensures ⨾ c.add_by_form-in-Err-2.ensures))

pub returns-in-Ok : goal.returns-in-Ok
returns-in-Ok g c =
    let dict = c.args.dict.now in
    let links = links_of_records c.args.form dict.order dict.file c.args.slot
    c.in-Ok.field-0.now (search rules) (search rules) in
    adds_is (search (rules, links)) (c.add_links_head.ensures ⨾ (c.add_by_form-in-Ok.ensures
    ⨾ c.add_records.ensures ⨾ c.add_by_form-in-Ok-2.ensures))
