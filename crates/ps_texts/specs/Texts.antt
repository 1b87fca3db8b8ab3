-- What each text is of a host and its libraries, and of a value that has it.
use Rattle.std.specs.Prelude.{◌≡◌, ℕ, Bool, List, ◌∷◌, ◌++◌, None, Ok, map}
use Rattle.ps_resolve.specs.Standing.{NoneStands}
use Rattle.ps_writing.specs.declared.rows.Form.{Form}
use Rattle.ps_writing.specs.declared.rows.Form.TheVariants.{Lines, Json}
use Rattle.ps_linkfile.specs.MapText.{map_as, map_json_of, map_of, members_of}
use Rattle.ps_linkfile.specs.ReferencesJson.{referenced_in}
use Rattle.ps_linkfile.specs.ReferencesText.{all_stored_of, references_in, references_of}
use Rattle.ps_linkfile.specs.ShowJson.{show_as}
use Rattle.ps_linkfile.specs.ShowText.{show_fault}
use Rattle.ps_listing.specs.FileLists.{IsList, lists_in}
use Rattle.ps_report.specs.Reported.{Reported, reported, said, warning_count}
use Rattle.ps_report.specs.Reports.{IsReport, printed_findings, printed_report}
use Rattle.ps_report.specs.Verdicts.{check_status}
use Rattle.ps_report.specs.declared.verdict.Verdict.{Verdict}
use Rattle.ps_texts.specs.CodeTypes.{code_type, type_line}
use Rattle.ps_texts.specs.UnitNames.{bytes_of, names_had, names_wanted}
use Rattle.ps_texts.specs.declared.kinds.HostText.{HostText}
use Rattle.ps_texts.specs.declared.kinds.HostText.TheVariants as of_host
use Rattle.ps_texts.specs.declared.kinds.LinkText.{LinkText}
use Rattle.ps_texts.specs.declared.kinds.LinkText.TheVariants as of_link
use Rattle.ps_texts.specs.declared.kinds.NamedText.{NamedText}
use Rattle.ps_texts.specs.declared.kinds.NamedText.TheVariants as of_named
use Rattle.ps_texts.specs.declared.kinds.ReportText.{ReportText}
use Rattle.ps_texts.specs.declared.kinds.ReportText.TheVariants as of_report
use Rattle.ps_texts.specs.declared.kinds.TextKind.{TextKind}
use Rattle.ps_texts.specs.declared.kinds.TextKind.TheVariants as kind
use Rattle.ps_texts.specs.declared.texts.FilesText.{FilesText}
use Rattle.ps_texts.specs.declared.texts.FilesText.TheVariants as text

-- the map of a link
abbrev pub map_text : Form → List ℕ → List (List ℕ) → List ℕ
map_text Lines host libs = map_of host libs
map_text Json host libs = map_json_of host libs

-- the map of a link and what it stores
abbrev pub references_text : Form → List ℕ → List (List ℕ) → List ℕ
references_text Lines host libs = map_of host libs ++ references_of host libs
references_text Json host libs =
    members_of host libs ++ references_in Json (all_stored_of host libs)

-- the text of a link
abbrev pub link_text : LinkText → Form → List ℕ → List (List ℕ) → List ℕ
link_text of_link.Map form host libs = map_text form host libs
link_text of_link.References form host libs = references_text form host libs

-- the text of a file that can be read, and the line of any
abbrev pub IsHostText : HostText → List ℕ → List ℕ → Type 0
IsHostText (of_host.Show form) host text =
    (show_fault host ≡ None) × (text ≡ show_as form host)
IsHostText of_host.Had host text =
    (names : List (List ℕ)) × (names_had host ≡ Ok names) × (text ≡ bytes_of names)
IsHostText of_host.CodeType host text = text ≡ type_line (code_type host)

-- what is printed of a report
abbrev pub report_bytes : ReportText → Form → Reported → List ℕ
report_bytes of_report.Whole form r = printed_report form r
report_bytes of_report.Findings form r = printed_findings form r

-- What a process that prints it ends with, of a report with so many warnings and this verdict: only
-- the whole report can end with another status than 0. With `strict`, a warning counts.
abbrev pub report_status : ReportText → Bool → ℕ → Verdict → ℕ
report_status of_report.Whole strict warnings verdict = check_status strict warnings verdict
report_status of_report.Findings strict warnings verdict = 0

-- what is printed of the report on a host and these libraries
abbrev pub IsReportText : ReportText → Form → Bool → List (List ℕ) → List ℕ → List (List ℕ) → ℕ
    → List ℕ → Type 0
IsReportText what form strict paths host libs status text =
    (r : Reported) × IsReport paths host libs r
    × (status ≡ report_status what strict (warning_count r.findings) r.verdict)
    × (text ≡ report_bytes what form r)

-- The text of a host and these libraries that has their paths. With `strict`, a warning counts for
-- the status: 1 where the files of a check are refused, else 0.
abbrev pub IsNamedText : NamedText → Bool → List (List ℕ) → List ℕ → List (List ℕ) → ℕ
    → List ℕ → Type 0
IsNamedText (of_named.OfReport what form) strict paths host libs status text =
    IsReportText what form strict paths host libs status text
IsNamedText (of_named.List how) strict paths host libs status text =
    (status ≡ 0) × IsList how paths (host ∷ libs) text

-- the text of a host and these libraries; only a report can end with another status than 0
abbrev pub IsTextOf : TextKind → Bool → List (List ℕ) → List ℕ → List (List ℕ)
    → ℕ → List ℕ → Type 0
IsTextOf (kind.OfLink what form) strict paths host libs status text =
    NoneStands host libs × (status ≡ 0) × (text ≡ link_text what form host libs)
IsTextOf (kind.OfHost what) strict paths host libs status text =
    (status ≡ 0) × IsHostText what host text
IsTextOf kind.Wanted strict paths host libs status text =
    (status ≡ 0) × (names : List (List ℕ)) × (names_wanted host libs ≡ Ok names)
    × (text ≡ bytes_of names)
IsTextOf (kind.Named what) strict paths host libs status text =
    IsNamedText what strict paths host libs status text

-- the text that a value has
abbrev pub bytes_in : {A : Type 0} → FilesText A → List ℕ
bytes_in (text.Map form linked) = map_as form linked.value
bytes_in (text.References form map) = referenced_in form map.value
bytes_in (text.Show form file) = show_as form file
bytes_in (text.Report what form report) = report_bytes what form (reported report)
bytes_in (text.Lists lists) = lists_in lists.how lists.files.items
bytes_in (text.Names names) = bytes_of names.items
bytes_in (text.CodeType found) = type_line found

-- what a process that prints it ends with
abbrev pub status_in : {A : Type 0} → Bool → FilesText A → ℕ
status_in strict (text.Report what form report) =
    report_status what strict (warning_count (map said report.findings.items)) report.verdict
status_in strict t = 0

-- a value has the text of these files, and its status is that of the text
abbrev pub IsMadeOf : {A : Type 0} → TextKind → List (List ℕ) → List ℕ → List (List ℕ)
    → FilesText A → Type 0
IsMadeOf k paths host libs t =
    (strict : Bool) → IsTextOf k strict paths host libs (status_in strict t) (bytes_in t)
