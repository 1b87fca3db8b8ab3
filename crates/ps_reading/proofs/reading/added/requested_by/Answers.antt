use Rattle.ps_reading.proofs.Vocabulary.{rules, ◌<◌, ℕ, List, length, take, subst, sym, arith, All, All-take, Record, Segment, AreAlreadyKnown, IsLike, UnitReference}
use Rattle.ps_reading.proofs.KnownNames.{nothing_new, requested_more}
use Rattle.ps_reading.proofs.SharedRecords.{of_shared}
use Rattle.ps_reading.proofs.reading.added.requested_by.Goals as goal

pub loop-index-preserved : goal.loop-index-preserved
loop-index-preserved c = search (rules, requested_more)

-- the names of a segment that shares its records are known
pub loop-index-preserved-then-shares_with : goal.loop-index-preserved-then-shares_with
loop-index-preserved-then-shares_with c =
    let own : List Segment = c.args.own.now in
    let units = c.args.units.now in
    let queue : List UnitReference = c.loop-index.queue.items in
    let i : ℕ = c.loop-index.index in
    let lt : i < length own = omega arith in
    let v : Segment = c.index-own-index.result in
    let inv = c.loop-index.invariant in
    let has = c.shares_with.ensures.records c.if-shares_with.true in
    let alike = All-take (IsLike v) i own
    (subst (λ (s : Segment). All (IsLike s) own) (sym c.index-own-index.is)
    (c.requires i v lt)) in
    let known = of_shared (λ (rs : List Record). AreAlreadyKnown units queue rs)
    (take i own) v has.0 (c.shares_with.ensures.linked c.if-shares_with.true) alike inv.known
    has.1 in
    search (rules, requested_more, nothing_new)
