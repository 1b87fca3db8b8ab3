use Rattle.ps_resolve.proofs.Vocabulary.{◌∙◌, [], sym, arith, append-nil, List, ap, units_in, publics_in, privates_in, references_in, is_reserved, Record, Segment, Known, HaveTargets}
use Rattle.ps_resolve.proofs.NextRecords.{no_links}
use Rattle.ps_reading.proofs.SharedRecords.{of_shared}
use Rattle.ps_resolve.proofs.KnownTargets.{no_references}
use Rattle.ps_resolve.proofs.references.records.add_records.Goals as goal

pub returns-then-privates-eq0 : goal.returns-then-privates-eq0
returns-then-privates-eq0 g c =
    let v : Segment = c.args.segment.now in
    let is = sym c.requires.records in
    let no = no_links c.args.link.now.names.now
    (is_reserved c.args.link.now.order v.code) v.code v.records 0 c.args.free []
    (ap units_in is ∙ (sym c.units.ensures ∙ c.if-units-eq0.true))
    (ap publics_in is ∙ (sym c.publics.ensures ∙ c.if-publics-eq0.true))
    (ap privates_in is ∙ (sym c.privates.ensures ∙ c.if-privates-eq0.true)) in
    grind (arith, append-nil)

pub returns-then-shares_with : goal.returns-then-shares_with
returns-then-shares_with g c =
    let known : Known = c.args.link.now.names.now in
    let v : Segment = c.args.segment.now in
    let is = sym c.requires.records in
    let has = c.shares_with.ensures.records c.if-shares_with.true in
    let named : HaveTargets known v.records =
    of_shared (λ (rs : List Record). HaveTargets known rs) c.args.earlier.now v has.0
    c.requires.linked c.requires.next.alike c.requires.next.named has.1 in
    let no = no_references known (is_reserved c.args.link.now.order v.code) v.code v.records 0
    c.args.free [] named
    (ap references_in is ∙ (sym c.references.ensures ∙ c.if-references-eq0.true))
    (ap privates_in is ∙ (sym c.privates-then-references-eq0.ensures
    ∙ c.if-privates-eq0-2.true)) in
    grind (arith, append-nil)
