-- What a report says, as values: the verdict, the name of what its fault is about, the findings, the
-- records that are not linked, how references lead to operands, and the text.
use Rattle.std.specs.Prelude.{◌≡◌, ℕ, Bool, List, Option, length, map, string_bytes}
use Rattle.std.specs.List.{filter}
use Rattle.ps_warnings.specs.declared.finding.FindingAt.{FindingAt}
use Rattle.ps_warnings.specs.FindingTexts.{finding_text}
use Rattle.ps_warnings.specs.Places.{place_text}
use Rattle.ps_warnings.specs.Weights.{is_certain}
use Rattle.ps_warnings.specs.declared.references.SegmentReferences.{SegmentReferences}
use Rattle.ps_explained.specs.declared.unsupported.UnsupportedRecord.{UnsupportedRecord}
use Rattle.ps_report.specs.declared.finding.SaidFinding.{SaidFinding}
use Rattle.ps_report.specs.declared.report.Report.{Report}
use Rattle.ps_report.specs.declared.verdict.Verdict.{Verdict}

-- a finding, and where it is and what it is in words
pub record Said : Type 0 where
  pub at : FindingAt
  pub place : List ℕ
  pub words : List ℕ

pub record Reported : Type 0 where
  pub verdict : Verdict
  pub name : Option (List ℕ)
  pub findings : List Said
  pub unsupported : List UnsupportedRecord
  pub references : List SegmentReferences
  pub text : List ℕ

-- the value of a finding with its words, and that of a report
abbrev pub said : {A : Type 0} → SaidFinding A → Said
said f = record { at = f.at; place = string_bytes f.place; words = string_bytes f.words }

abbrev pub reported : {A : Type 0} → Report A → Reported
reported r = record {
  verdict = r.verdict;
  name = r.name;
  findings = map said r.findings.items;
  unsupported = r.unsupported.items;
  references = r.references.items;
  text = string_bytes r.text;
}

-- the findings without their words
abbrev pub findings_in : List Said → List FindingAt
findings_in found = map (λ f. f.at) found

-- each of these is said to be where it is
abbrev pub ArePlaced : List Said → Type 0
ArePlaced found = map (λ f. f.place) found ≡ map (λ f. place_text f.place) (findings_in found)

-- each of these is said in its own words
abbrev pub AreWorded : List Said → Type 0
AreWorded found = map (λ f. f.words) found
    ≡ map (λ f. finding_text f.finding) (findings_in found)

-- it is a warning
abbrev pub is_warned : Said → Bool
is_warned f = is_certain f.at.finding

-- how many of these findings are warnings
unfoldable pub warning_count : List Said → ℕ
warning_count found = length (filter is_warned found)
