use Rattle.ps_linkfile.proofs.Vocabulary.{Ordered, file_order, ◌∙◌, None, Some, length, sym, ap, ltb}
use Rattle.ps_linkfile.proofs.Shows.{read_shows, beside_shows, beside_fault, is_shown}
use Rattle.ps_linkfile.proofs.show.ShownFile.read.Goals as goal

pub invariant_of-result : goal.invariant_of-result
invariant_of-result c =
    let file = c.args.file.now in
    let is = read_shows (ltb (length file) 512) (file_order file) file c.in-Ok.dict
    (sym c.read.ensures ∙ c.in-Ok.is) in
    is_shown file (Some c.order.result) c.in-Ok.dict (record {
      order = ap (λ o. Ordered o) c.order.ensures ∙ is.order;
      dict = is.dict;
      sound = is.sound;
    })

pub returns-in-Ok : goal.returns-in-Ok
returns-in-Ok c =
    let file = c.args.file.now in
    let is = read_shows (ltb (length file) 512) (file_order file) file c.in-Ok.dict
    (sym c.read.ensures ∙ c.in-Ok.is) in
    record { file = ap (λ o. o.file) is.dict; sound = is.sound; fault = tt }

pub invariant_of-result-in-Ok-read_beside : goal.invariant_of-result-in-Ok-read_beside
invariant_of-result-in-Ok-read_beside c =
    let file = c.args.file.now in
    is_shown file None c.in-Ok-read_beside.dict
    (beside_shows (ltb (length file) 512) (file_order file) file _ c.in-Ok-read_beside.dict
    (sym c.read.ensures ∙ c.in-Err.is) (sym c.read_beside.ensures ∙ c.in-Ok-read_beside.is))

pub returns-in-Ok-read_beside : goal.returns-in-Ok-read_beside
returns-in-Ok-read_beside c =
    let file = c.args.file.now in
    let is = beside_shows (ltb (length file) 512) (file_order file) file _ c.in-Ok-read_beside.dict
    (sym c.read.ensures ∙ c.in-Err.is) (sym c.read_beside.ensures ∙ c.in-Ok-read_beside.is) in
    record { file = ap (λ o. o.file) is.dict; sound = is.sound; fault = tt }

pub returns-in-Err-read_beside-clause-fault : goal.returns-in-Err-read_beside-clause-fault
returns-in-Err-read_beside-clause-fault c =
    let file = c.args.file.now in
    beside_fault (ltb (length file) 512) (file_order file) file _ c.in-Err-read_beside.reason
    (sym c.read.ensures ∙ c.in-Err.is) (sym c.read_beside.ensures ∙ c.in-Err-read_beside.is)
    ∙ ap (λ f. Some f) (sym c.file_fault.ensures)
