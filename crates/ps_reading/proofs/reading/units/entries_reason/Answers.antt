use Rattle.ps_reading.proofs.Vocabulary.{◌≡◌, ◌∙◌, ℕ, Some, false, sym, ap, Entry}
use Rattle.ps_words.specs.declared.fault.Reason.TheVariants as reason
use Rattle.ps_reading.proofs.ReadingUnits.{is_duplicate, of_kind, of_unit}
use Rattle.ps_reading.proofs.reading.units.entries_reason.Goals as goal

pub returns-then-kind-ne-UNITSEG : goal.returns-then-kind-ne-UNITSEG
returns-then-kind-ne-UNITSEG c =
    let d : is_duplicate c.args.dict.now.order c.args.name c.args.dict.now.file ≡ false =
    sym c.has_duplicate_below.ensures ∙ c.if-has_duplicate_below.false in
    let kind = ap (λ (e : Entry). e.kind) c.entry-kind.ensures in
    ap (λ (k : ℕ). Some (reason.NotAUnit k)) kind
    ∙ sym (of_kind c.args.dict.now.order c.args.name c.args.dict.now.file c.args.index d
    c.requires.entry (λ e. c.if-kind-ne-UNITSEG.true (kind ∙ e)))

pub returns : goal.returns
returns c =
    let d : is_duplicate c.args.dict.now.order c.args.name c.args.dict.now.file ≡ false =
    sym c.has_duplicate_below.ensures ∙ c.if-has_duplicate_below.false in
    let kind = ap (λ (e : Entry). e.kind) c.entry-kind.ensures in
    sym (of_unit c.args.dict.now.order c.args.name c.args.dict.now.file c.args.index d
    c.requires.entry (sym kind ∙ c.if-kind-ne-UNITSEG.false))
