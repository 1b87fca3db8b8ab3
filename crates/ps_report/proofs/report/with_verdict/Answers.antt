use Rattle.std.proofs.Common.{◌∙◌, ◌++◌, ℕ, List, ap, string_bytes, subst}
use Rattle.ps_explained.specs.SlotLines.{AddsSlotLines, slot_lines}
use Rattle.ps_explained.proofs.SlotLines.{adds_then_none}
use Rattle.ps_report.specs.FindingLines.{AddsWarnings, part_lines}
use Rattle.ps_report.specs.declared.lines.Part.TheVariants.{Account, Segments}
use Rattle.ps_report.specs.Verdicts.{verdict_line}
use Rattle.ps_report.proofs.SegmentTexts.{adds_empty, adds_five, none_in_five}
use Rattle.ps_report.proofs.Texts.{five, parts_are}
use Rattle.ps_report.proofs.FindingLines.{added_then, adds_no_slot, adds_part_lines, keeps_slot_lines}
use Rattle.ps_report.proofs.report.with_verdict.Goals as goal

pub returns-clause-parts : goal.returns-clause-parts
returns-clause-parts g c =
    let parts = c.args.parts in
    let more = part_lines Account parts.references.now in
    c.in_ok-add_lines-5.ensures ∙ (ap (λ (t : List ℕ). t ++ more)
    (parts_are _ _ _ _ _ _ _ _ _ _ _ c.new-text.ensures.bytes
    c.in_ok-add_lines.ensures c.in_ok-add_lines-2.ensures c.in_ok-add_verdict.ensures.line
    c.in_ok-add_lines-3.ensures c.in_ok-add_lines-4.ensures)
    ∙ five (part_lines Segments parts.files.now) (part_lines Segments parts.segments.now)
    (verdict_line c.args.verdict) (part_lines Account parts.explanation.now)
    (part_lines Account parts.lists.now) more)

pub returns-clause-warnings : goal.returns-clause-warnings
returns-clause-warnings g c =
    subst (λ (t : List ℕ). AddsWarnings t 0 (string_bytes c.add_lines-5.new.text))
    c.new-text.ensures.bytes
    (added_then _ _ _ 0 0 (none_in_five _ _ _ _ _ _ (adds_part_lines Segments _ _ _ c.in_ok-add_lines.ensures)
    (adds_part_lines Segments _ _ _ c.in_ok-add_lines-2.ensures)
    c.in_ok-add_verdict.ensures.warnings
    (adds_part_lines Account _ _ _ c.in_ok-add_lines-3.ensures)
    (adds_part_lines Account _ _ _ c.in_ok-add_lines-4.ensures))
    (adds_part_lines Account _ _ _ c.in_ok-add_lines-5.ensures))

pub returns-clause-lines : goal.returns-clause-lines
returns-clause-lines g c = λ plain silent none.
    let empty = string_bytes c.new-text.result in
    let first = string_bytes c.add_lines.new.text in
    let lines = slot_lines c.args.parts.segments.now in
    subst (λ (t : List ℕ). AddsSlotLines t lines (string_bytes c.add_lines-5.new.text))
    c.new-text.ensures.bytes
    (adds_then_none _ (string_bytes c.add_lines-4.new.text) _ lines (adds_five _ first _ _ _ _ lines
    (subst (λ (ls : List (List ℕ)). AddsSlotLines empty ls first) plain
    (keeps_slot_lines _ _ _ c.in_ok-add_lines.ensures))
    (keeps_slot_lines _ _ _ c.in_ok-add_lines-2.ensures) c.in_ok-add_verdict.ensures.lines
    (adds_empty Account _ _ _ c.in_ok-add_lines-3.ensures silent)
    (adds_empty Account _ _ _ c.in_ok-add_lines-4.ensures none))
    (adds_no_slot _ _ _ c.in_ok-add_lines-5.ensures))
