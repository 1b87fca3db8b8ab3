-- The report of a check of files at these paths, the host's first, and what is printed of it.
use Rattle.std.specs.Prelude.{◌≡◌, ◌↔◌, ◌<◌, ℕ, true, false, if◌then◌else◌, List, [], ◌∷◌, ◌++◌, Option, Some, None}
use Rattle.ps_words.specs.declared.fault.Fault.{Fault}
use Rattle.ps_resolve.specs.AllFaults.{reading_fault}
use Rattle.ps_resolve.specs.Standing.{NoneStands}
use Rattle.ps_filetype.specs.CodeTypes.{is_code_type}
use Rattle.ps_check_segments.specs.Seen.{Seen}
use Rattle.ps_check_segments.specs.SeenSegments.{seen_segments}
use Rattle.ps_explained.specs.FileLines.{AreFileLines}
use Rattle.ps_explained.specs.OverviewText.{overview_text}
use Rattle.ps_explained.specs.SegmentLines.{has_unread, read_lines, segment_lines}
use Rattle.ps_explained.specs.SlotLines.{slot_lines}
use Rattle.ps_warnings.specs.Found.{Stated, about_link_in, is_warning}
use Rattle.ps_warnings.specs.WarnedFiles.{AreInOrder, AreSaid, IsSo}
use Rattle.ps_writing.specs.declared.rows.Form.{Form}
use Rattle.ps_writing.specs.declared.rows.Form.TheVariants.{Lines, Json}
use Rattle.ps_listing.specs.FileLists.{IsList}
use Rattle.ps_listing.specs.declared.lists.ListForm.TheVariants as list
use Rattle.ps_report.specs.Lists.{lacks_host}
use Rattle.ps_report.specs.FindingLines.{finding_lines, part_lines, warnings_in}
use Rattle.ps_report.specs.declared.lines.Part.TheVariants as part
use Rattle.ps_report.specs.LastLine.{last_line}
use Rattle.ps_report.specs.ReportJson.{findings_json, report_json}
use Rattle.ps_report.specs.Reported.{ArePlaced, AreWorded, Reported, findings_in, warning_count}
use Rattle.ps_report.specs.Verdicts.{IsVerdict, Tells, fault_of, verdict_line, verdict_name}
use Rattle.ps_report.specs.declared.verdict.Verdict.{Verdict}

-- of these files something is so that a warning says
abbrev pub HasWarning : List (List ℕ) → List ℕ → List (List ℕ) → Type 0
HasWarning paths host libs = (thing : Stated) × (is_warning thing ≡ true)
    × IsSo paths host libs (seen_segments host libs) thing thing.finding

-- Of the segments of a host as they were read, those of which a report tells where there is a
-- fault of reading: none of a host that is no code file.
abbrev pub told_of_host : List ℕ → List Seen → List Seen
told_of_host host list = if is_code_type host then list else []

-- The segments of which a report tells: all, where the files were read without a fault.
abbrev pub told_after : Option Fault → List ℕ → List Seen → List Seen
told_after None host list = list
told_after (Some f) host list = told_of_host host list

abbrev pub told_segments : List ℕ → List (List ℕ) → List Seen
told_segments host libs = told_after (reading_fault host libs) host (seen_segments host libs)

-- What the text of a report has before its findings, besides the line of its verdict.
pub record Sections : Type 0 where
  pub files : List ℕ
  pub segments : List ℕ
  pub explanation : List ℕ
  pub lists : List ℕ
  pub references : List ℕ

-- The sections of the report of these files, with this verdict.
pub record AreSections (paths : List (List ℕ)) (host : List ℕ) (libs : List (List ℕ))
    (verdict : Verdict) (s : Sections) : Type 0 where
  -- a line of each file
  pub files : AreFileLines paths 0 (host ∷ libs) s.files
  -- the lines that begin with `slot ` are those of the segments: of the link, where the files were
  -- read without a fault, and else as they were read
  pub linked : reading_fault host libs ≡ None
      → slot_lines s.segments ≡ segment_lines paths host libs
  pub read : (f : Fault) → reading_fault host libs ≡ Some f
      → slot_lines s.segments ≡ read_lines paths (has_unread host libs)
      (told_of_host host (seen_segments host libs))
  -- all that is said of the segments: their lines, the later libraries that have their names too,
  -- the slots without a segment, and the libraries from which nothing is taken
  pub told : s.segments ≡ overview_text paths host libs (told_segments host libs)
  -- where the files are linked, nothing is explained
  pub silent : fault_of verdict ≡ None → s.explanation ≡ []
  -- where no file is a host, the list of each, and else no list
  pub listed : lacks_host verdict libs ≡ true → IsList list.Lines paths (host ∷ libs) s.lists
  pub unlisted : lacks_host verdict libs ≡ false → s.lists ≡ []

-- the text up to the findings: no line of it but that of the verdict begins as that of a verdict or
-- of a finding, and none but those of the segments as that of a segment
abbrev pub front_of : Verdict → Sections → List ℕ
front_of verdict s = part_lines part.Segments s.files ++ (part_lines part.Segments s.segments
    ++ (verdict_line verdict ++ (part_lines part.Account s.explanation
    ++ (part_lines part.Account s.lists ++ part_lines part.Account s.references))))

-- The report of these files.
pub record IsReport (paths : List (List ℕ)) (host : List ℕ) (libs : List (List ℕ))
    (r : Reported) : Type 0 where
  -- the verdict is right, its line begins a line of the text, and the name is that of what its
  -- fault is about
  pub right : IsVerdict host libs r.verdict
  pub line : Tells r.text r.verdict
  pub name : r.name ≡ verdict_name host libs r.verdict
  -- the text is the sections, with the line of the verdict, a line of each finding, and where a
  -- warning or a note is among them the line that says what to do
  pub made : (s : Sections) × AreSections paths host libs r.verdict s
      × (r.text ≡ front_of r.verdict s
      ++ (finding_lines r.findings ++ last_line paths r.findings))
  -- where the files are linked, the lines that begin with `slot ` are those of the segments
  pub segments : NoneStands host libs → slot_lines r.text ≡ segment_lines paths host libs
  -- of the findings about the link each is so, and whatever is so is said, for the segments of the
  -- link as they were read; and they are in order
  pub findings : AreSaid paths host libs (seen_segments host libs)
      (about_link_in (findings_in r.findings))
  pub ordered : AreInOrder paths host libs (seen_segments host libs)
      (about_link_in (findings_in r.findings))
  -- a finding is a warning exactly where something is so that a warning says
  pub warnings : (0 < warning_count r.findings) ↔ HasWarning paths host libs
  -- each finding is said to be where it is
  pub placed : ArePlaced r.findings
  -- each finding is said in the words that are its own
  pub worded : AreWorded r.findings
  -- where the files are linked, there is no record that is not
  pub supported : fault_of r.verdict ≡ None → r.unsupported ≡ []
  -- so many lines of the text begin with `warning: ` as there are warnings
  pub counted : warnings_in r.text ≡ warning_count r.findings

-- A report as it is printed: its text, or the document.
abbrev pub printed_report : Form → Reported → List ℕ
printed_report Lines r = r.text
printed_report Json r = report_json r

-- The findings of a report, one by one, as they are printed: their lines in its text, or the
-- document of them.
abbrev pub printed_findings : Form → Reported → List ℕ
printed_findings Lines r = finding_lines r.findings
printed_findings Json r = findings_json r.findings
