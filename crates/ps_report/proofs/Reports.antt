-- A text that is put together is that of a report.
use Rattle.std.proofs.Common.{◌≡◌, ◌++◌, [], ℕ, List, None}
use Rattle.ps_resolve.specs.Standing.{NoneStands}
use Rattle.ps_check_segments.specs.SeenSegments.{seen_segments}
use Rattle.ps_explained.specs.SegmentLines.{segment_lines}
use Rattle.ps_explained.specs.SlotLines.{AddsSlotLines}
use Rattle.ps_explained.proofs.SlotLines.{adds_then_none, lines_in}
use Rattle.ps_warnings.specs.Found.{about_link_in}
use Rattle.ps_warnings.specs.WarnedFiles.{AreInOrder, AreSaid}
use Rattle.ps_warnings.proofs.HasWarned.{warned_said}
use Rattle.ps_report.specs.Reported.{ArePlaced, AreWorded, Reported, findings_in, warning_count}
use Rattle.ps_report.specs.Reports.{AreSections, IsReport, Sections, front_of}
use Rattle.ps_report.specs.Verdicts.{IsVerdict, fault_of, verdict_name}
use Rattle.ps_report.specs.FindingLines.{AddsWarnings, finding_lines}
use Rattle.ps_report.specs.LastLine.{last_line}
use Rattle.ps_report.proofs.Findings.{warned_about}
use Rattle.ps_report.proofs.Texts.{told_in}
use Rattle.ps_report.proofs.FindingLines.{counted}
use Rattle.ps_report.proofs.LastLine.{adds_last_lines}

-- what is before the lines of the findings
pub record Front (paths : List (List ℕ)) (host : List ℕ) (libs : List (List ℕ)) (r : Reported)
    (front : List ℕ) : Type 0 where
  pub sections : Sections
  pub are : AreSections paths host libs r.verdict sections
  pub parts : front ≡ front_of r.verdict sections
  pub warnings : AddsWarnings [] 0 front
  pub lines : NoneStands host libs → AddsSlotLines [] (segment_lines paths host libs) front

pub is_report : (paths : List (List ℕ)) (host : List ℕ) (libs : List (List ℕ))
    (r : Reported) (front : List ℕ) → Front paths host libs r front
    → r.text ≡ front ++ (finding_lines r.findings ++ last_line paths r.findings)
    → IsVerdict host libs r.verdict → r.name ≡ verdict_name host libs r.verdict
    → AreSaid paths host libs (seen_segments host libs) (about_link_in (findings_in r.findings))
    → AreInOrder paths host libs (seen_segments host libs) (about_link_in (findings_in r.findings))
    → ArePlaced r.findings → AreWorded r.findings
    → (fault_of r.verdict ≡ None → r.unsupported ≡ []) → IsReport paths host libs r
is_report paths host libs r front is text right name said ordered placed worded supported =
    let lines = finding_lines r.findings ++ last_line paths r.findings in
    let whole : r.text ≡ front_of r.verdict is.sections ++ lines = rw is.parts at text in
    let added = adds_last_lines paths front r.findings in record {
      right = right;
      line = told_in paths host libs r.verdict is.sections lines r.text is.are.files whole;
      name = name;
      made = (is.sections, is.are, whole);
      segments = λ none. lines_in r.text (segment_lines paths host libs)
          (adds_then_none [] front r.text (segment_lines paths host libs) (is.lines none)
          (rw text added.1));
      findings = said;
      ordered = ordered;
      warnings = rw (warned_about r.findings)
          (warned_said paths host libs (seen_segments host libs) _ said);
      placed = placed;
      worded = worded;
      supported = supported;
      counted = counted r.text front (warning_count r.findings) is.warnings (rw text added.0);
    }
