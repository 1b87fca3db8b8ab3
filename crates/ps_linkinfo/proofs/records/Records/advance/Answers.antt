use Rattle.ps_linkinfo.proofs.Vocabulary.{arith, ◌∙◌, sym, ap, bad}
use Rattle.ps_linkinfo.specs.Left.{items_left}
use Rattle.ps_linkinfo.proofs.Steps.{left_end, left_next}
use Rattle.ps_linkinfo.proofs.records.Records.advance.Goals as goal

pub returns-in-Err-clause-step : goal.returns-in-Err-clause-step
returns-in-Err-clause-step c = search arith

pub returns-in-Err-clause-first : goal.returns-in-Err-clause-first
returns-in-Err-clause-first c =
    let w = c.self.inside in
    let bad_there = ap (bad w.order) (sym c.split_at.ensures.back) ∙ c.in-Err.ensures.bad in
    ap items_left (sym c.self.view_is) ∙ left_end
    (record { order = w.order; bytes = w.bytes.now; used = w.used; ended = w.ended })
    c.in-Err.reason c.if-self.false bad_there

pub returns-in-Ok-clause-first : goal.returns-in-Ok-clause-first
returns-in-Ok-clause-first c = grind (arith, left_next)
