use Rattle.ps_listing.proofs.Vocabulary.{◌∙◌, List, ℕ, true, ap, Record, none_yet, some_more}
use Rattle.ps_listing.specs.ListText.{use_of}
use Rattle.ps_listing.proofs.Rows.{numbered_are, numbered_uses}
use Rattle.ps_listing.proofs.parts.add_each_use.Goals as goal

pub loop-record-init : goal.loop-record-init
loop-record-init g c = none_yet (ap (λ (xs : List (ℕ × Record)).
    numbered_uses c.args.form true xs)
    (c.into_iter-record-iterator.ensures.into_iter_gives ∙ c.records-record-items.ensures)
    ∙ numbered_are c.args.form true 0 c.args.records.now)

pub loop-record-preserved : goal.loop-record-preserved
loop-record-preserved g c =
    let first = c.loop-record.first in
    let r = c.in-Some.record in
    let left =
    ap (λ (xs : List (ℕ × Record)). numbered_uses c.args.form first xs) c.in-Some.ensures.steps in
    rw c.add_use-first.ensures.first (some_more {here = use_of c.args.form first r.name r.body}
    left c.loop-record.invariant c.add_use-first.ensures.used)
