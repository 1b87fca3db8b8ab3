-- What a report tells of its files, and whether the names of files are right.
use Rattle.std.specs.Prelude.{◌≡◌, ℕ, ◌+◌, ⊤, List, Option, length, sum}
use Rattle.ps_report.specs.Reports.{IsReport}
use Rattle.ps_report.specs.Reported.{Reported, warning_count}
use Rattle.ps_report.specs.declared.verdict.Verdict.{Verdict as ReportVerdict}
use Rattle.ps_report.specs.declared.verdict.Verdict.TheVariants as report
use Rattle.ps_c_link.specs.declared.outcome.Done.{Done}
use Rattle.ps_c_link.specs.declared.outcome.Done.TheVariants as done
use Rattle.ps_c_link.specs.declared.outcome.NotDone.{NotDone}
use Rattle.ps_c_link.specs.declared.outcome.NotDone.TheVariants as not_done
use Rattle.ps_linkfile.specs.declared.unmade.Unmade.TheVariants as unmade
use Rattle.ps_c_link.specs.declared.outcome.Unput.TheVariants as unput
use Rattle.ps_c_link.specs.declared.outcome.Verdict.{Verdict}
use Rattle.ps_c_link.specs.declared.outcome.Verdict.TheVariants as verdict
use Rattle.ps_c_link.specs.declared.outcome.WrongInputs.TheVariants as wrong
use Rattle.ps_texts.specs.Texts.{report_bytes}
use Rattle.ps_texts.specs.declared.kinds.ReportText.{ReportText}
use Rattle.ps_writing.specs.declared.rows.Form.{Form}

-- what a link of files with this verdict comes to; a fault is about what has this name
abbrev pub told_verdict : ReportVerdict → Option (List ℕ) → Verdict
told_verdict (report.Links summary) name = verdict.Links summary
told_verdict (report.Refused fault) name = verdict.Refused (record { fault = fault; name = name })

-- what is told of a report that was put in a room, as so many bytes
abbrev pub told_report : Reported → ℕ → Done
told_report r size =
    done.Report (told_verdict r.verdict r.name) (warning_count r.findings) size

-- The text is this of a report of these files, and what is told of it is what this report says.
abbrev pub IsToldReport : ReportText → Form → List (List ℕ) → List ℕ → List (List ℕ) → List ℕ
    → Done → Type 0
IsToldReport what form names host libs text d =
    (r : Reported) × IsReport names host libs r × (text ≡ report_bytes what form r)
    × (d ≡ told_report r (length text))

-- libraries and names add up to what is given, and there is one name for the host and one for each
-- library
abbrev pub HasItsLengths : List ℕ → List ℕ → List ℕ → List ℕ → Type 0
HasItsLengths libs lengths names name_lengths =
    (sum lengths ≡ length libs) × (length name_lengths ≡ 1 + length lengths)
    × (sum name_lengths ≡ length names)

-- why there are no names, of which it is known whether they are right: they are wrong, or want of
-- memory
abbrev pub WhyUnnamed : Type 0 → NotDone → Type 0
WhyUnnamed Names (not_done.Wrong wrong.Names) = Names → ⊥
WhyUnnamed Names (not_done.Unput (unput.Unmade unmade.Memory)) = ⊤
WhyUnnamed Names other = ⊥
