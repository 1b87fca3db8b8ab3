-- The parts of a report that have no line of a segment, and those that are put together.
use Rattle.std.proofs.Common.{◌≡◌, ◌∙◌, ◌++◌, ◌∷◌, [], ℕ, List, Option, Some, None, true, false, codes, refl, sym, ap}
use Rattle.std.specs.Prelude.{decimal}
use Rattle.std.proofs.lemmas.List.{append_assoc}
use Rattle.ps_words.specs.FaultText.{fault_text, kind_of, name_of, number_of, part_text}
use Rattle.ps_words.specs.declared.fault.Fault.{Fault}
use Rattle.ps_words.specs.declared.fault.Reason.{Reason}
use Rattle.ps_words.specs.declared.fault.Reason.TheVariants as reason
use Rattle.ps_linkfile.specs.declared.summary.Summary.{Summary}
use Rattle.ps_resolve.specs.Standing.{NoneStands}
use Rattle.ps_explained.specs.SlotLines.{AddsSlotLines, one_line}
use Rattle.ps_explained.proofs.OneLine.{one_append, one_digits}
use Rattle.ps_explained.proofs.SlotLines.{adds_then, adds_then_none}
use Rattle.ps_report.specs.Lists.{lacks_host}
use Rattle.ps_report.specs.Verdicts.{IsVerdict, fault_of, verdict_line}
use Rattle.ps_report.specs.FindingLines.{AddsWarnings, part_lines}
use Rattle.ps_report.specs.declared.lines.Part.{Part}
use Rattle.ps_report.specs.declared.verdict.Verdict.{Verdict}
use Rattle.ps_report.specs.declared.verdict.Verdict.TheVariants.{Links, Refused}
use Rattle.ps_report.proofs.FindingLines.{AddsFindings, added_then, adds_other, part_lines_none}

-- a part that is empty
pub adds_empty : (part : Part) (old text new : List ℕ) → new ≡ old ++ part_lines part text
    → text ≡ [] → AddsSlotLines old [] new
adds_empty part old text new is e = ([], rw (e, part_lines_none part) at is, λ rest. refl)

-- the line of a verdict that the files are linked
abbrev links_words : Summary → List ℕ
links_words s = codes "links: segments "
    ++ (decimal s.segments ++ (codes " private words "
    ++ (decimal s.private_words ++ (codes " blocks " ++ decimal s.blocks))))

one_links : (s : Summary) → one_line (links_words s) ≡ true
one_links s =
    let blocks = codes " blocks " ++ decimal s.blocks in
    let words = codes " private words " ++ (decimal s.private_words ++ blocks) in
    one_append (codes "links: segments ") (decimal s.segments ++ words) refl
    (one_append (decimal s.segments) words (one_digits 10 s.segments)
    (one_append (codes " private words ") (decimal s.private_words ++ blocks) refl
    (one_append (decimal s.private_words) blocks (one_digits 10 s.private_words)
    (one_append (codes " blocks ") (decimal s.blocks) refl (one_digits 10 s.blocks)))))

links_end : (s : Summary) → verdict_line (Links s) ≡ links_words s ++ 10 ∷ []
links_end s =
    let blocks = codes " blocks " ++ decimal s.blocks in
    let words = codes " private words " ++ (decimal s.private_words ++ blocks) in
    ap (λ (t : List ℕ). codes "links: segments " ++ t)
    (sym (append_assoc (decimal s.segments) words (10 ∷ [])
    ∙ ap (λ (t : List ℕ). decimal s.segments ++ (codes " private words " ++ t))
    (append_assoc (decimal s.private_words) blocks (10 ∷ []))))

-- the line of a verdict that they are refused; each name computes
one_reason : (why : Reason) → one_line (name_of why) ≡ true
one_reason reason.ShortFile = refl
one_reason other = refl

one_part : (label : List ℕ) (part : Option ℕ) → one_line label ≡ true
    → one_line (part_text label part) ≡ true
one_part label None h = refl
one_part label (Some n) h =
    one_append (codes " ") (label ++ (codes " " ++ decimal n)) refl
    (one_append label (codes " " ++ decimal n) h
    (one_append (codes " ") (decimal n) refl (one_digits 10 n)))

one_fault : (f : Fault) → one_line (fault_text f) ≡ true
one_fault f =
    let kind = part_text (codes "kind") (kind_of f.reason) in
    let slot = part_text (codes "slot") f.slot in
    let rec = part_text (codes "record") f.rec in
    let reference = part_text (codes "reference") f.reference in
    let file = codes " file " ++ (decimal f.file ++ (slot ++ (rec ++ reference))) in
    let name = codes " " ++ (name_of f.reason ++ (kind ++ file)) in
    one_append (codes "refused ") (decimal (number_of f.reason) ++ name) refl
    (one_append (decimal (number_of f.reason)) name (one_digits 10 (number_of f.reason))
    (one_append (codes " ") (name_of f.reason ++ (kind ++ file)) refl
    (one_append (name_of f.reason) (kind ++ file) (one_reason f.reason)
    (one_append kind file (one_part (codes "kind") (kind_of f.reason) refl)
    (one_append (codes " file ") (decimal f.file ++ (slot ++ (rec ++ reference))) refl
    (one_append (decimal f.file) (slot ++ (rec ++ reference)) (one_digits 10 f.file)
    (one_append slot (rec ++ reference) (one_part (codes "slot") f.slot refl)
    (one_append rec reference (one_part (codes "record") f.rec refl)
    (one_part (codes "reference") f.reference refl)))))))))

-- the line of a verdict begins neither as that of a segment nor as that of a warning
pub adds_verdict : (old new : List ℕ) (verdict : Verdict) → new ≡ old ++ verdict_line verdict
    → AddsFindings old 0 new
adds_verdict old new (Links s) is =
    adds_other old (links_words s) new (one_links s) refl refl (rw (links_end s) at is)
adds_verdict old new (Refused f) is = adds_other old (codes "pslink: " ++ fault_text f) new
    (one_append (codes "pslink: ") (fault_text f) refl (one_fault f)) refl refl is

-- lines of segments after a part without one, and three parts without one
pub adds_five : (a b c d e f : List ℕ) (lines : List (List ℕ)) → AddsSlotLines a [] b
    → AddsSlotLines b lines c → AddsSlotLines c [] d → AddsSlotLines d [] e
    → AddsSlotLines e [] f → AddsSlotLines a lines f
adds_five a b c d e f lines p q r s t = adds_then_none a e f lines
    (adds_then_none a d e lines (adds_then_none a c d lines
    (adds_then a b c [] lines p q) r) s) t

-- five parts without a warning
pub none_in_five : (a b c d e f : List ℕ) → AddsWarnings a 0 b → AddsWarnings b 0 c
    → AddsWarnings c 0 d → AddsWarnings d 0 e → AddsWarnings e 0 f → AddsWarnings a 0 f
none_in_five a b c d e f p q r s t = added_then a e f 0 0
    (added_then a d e 0 0 (added_then a c d 0 0 (added_then a b c 0 0 p q) r) s) t

-- where no fault applies, the verdict is that the files are linked
pub links_of : (host : List ℕ) (libs : List (List ℕ)) (verdict : Verdict)
    → IsVerdict host libs verdict → NoneStands host libs → fault_of verdict ≡ None
links_of host libs (Links s) right none = refl
links_of host libs (Refused f) right none = absurd (none right.0.step f right.0.stands)

-- no list of files is in the text of files that link
pub no_lists : (verdict : Verdict) (libs : List (List ℕ)) → fault_of verdict ≡ None
    → lacks_host verdict libs ≡ false
no_lists (Links s) libs e = refl
no_lists (Refused f) libs e = cc
