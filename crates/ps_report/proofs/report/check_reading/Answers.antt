use Rattle.std.proofs.Common.{◌≡◌, ◌∙◌, ◌++◌, [], List, None, ℕ, ap, false, string_bytes}
use Rattle.ps_check_segments.specs.Paths.{paths_in}
use Rattle.ps_resolve.specs.AllFaults.{reading_fault}
use Rattle.ps_resolve.specs.Sources.{contents}
use Rattle.ps_explained.specs.SegmentLines.{segment_lines}
use Rattle.ps_explained.specs.SlotLines.{slot_lines}
use Rattle.ps_report.specs.Verdicts.{IsVerdict, fault_of}
use Rattle.ps_report.specs.Lists.{lacks_host}
use Rattle.ps_explained.proofs.SlotLines.{lines_in}
use Rattle.ps_report.proofs.SegmentTexts.{links_of, no_lists}
use Rattle.ps_report.proofs.Reports.{is_report}
use Rattle.ps_report.proofs.report.check_reading.Goals as goal

pub returns : goal.returns
returns g c =
    let host = c.args.files.now.host.now in
    let libs : List (List ℕ) = contents c.args.files.now.libs.now in
    let paths : List (List ℕ) = paths_in c.args.files.now in
    let verdict = c.in_ok-verdict.verdict in
    let right : IsVerdict host libs verdict = rw c.requires at c.in_ok-verdict.ensures.right in
    let front = string_bytes c.in_ok-front.front in
    let told = c.in_ok-front.ensures in
    let found = c.in_ok-inspection.ensures in
    let worded = c.in_ok-findings.ensures in
    let lists = c.in_ok-lists.ensures in
    let silent : fault_of verdict ≡ None → c.as_str-3.result.now ≡ [] =
    λ links. c.as_str-3.ensures.value ∙ found.explanation links in
    let unlisted : lacks_host verdict libs ≡ false → c.as_str-4.result.now ≡ [] =
    λ has. c.as_str-4.ensures.value ∙ lists.none has in
    let shown : reading_fault host libs ≡ None
    → slot_lines c.as_str-2.result.now ≡ segment_lines paths host libs =
    λ read. ap slot_lines c.as_str-2.ensures.value ∙ found.linked read in
    is_report paths host libs _ front
    (record {
      sections = record {
        files = c.as_str.result.now;
        segments = c.as_str-2.result.now;
        explanation = c.as_str-3.result.now;
        lists = c.as_str-4.result.now;
        references = c.as_str-5.result.now;
      };
      are = record {
        files = rw c.as_str.ensures.value found.files;
        linked = shown;
        read = λ why is. ap slot_lines c.as_str-2.ensures.value ∙ found.read why is;
        told = c.as_str-2.ensures.value ∙ found.told;
        silent = silent;
        listed = λ lacks. rw c.as_str-4.ensures.value (lists.lists lacks);
        unlisted = unlisted;
      };
      parts = told.parts;
      warnings = told.warnings;
      lines =
          λ none.
          let links = links_of host libs verdict right none in
          let read = c.first_of_all.ensures.unread host libs
          (λ step f reading stands. none step f stands) in
          let plain = ap slot_lines c.as_str.ensures.value
          ∙ lines_in (string_bytes c.in_ok-inspection.inspection.overview.files) [] found.silent in
          rw (shown read) at (told.lines plain (silent links)
          (unlisted (no_lists verdict libs links)));
    })
    (c.in_ok-push_str.ensures.bytes
    ∙ ap (λ (t : List ℕ). front ++ t) (c.as_str-6.ensures.value ∙ c.in_ok-lines.ensures))
    right found.name
    (rw (worded.findings, c.as_slice.ensures.value) found.said)
    (rw (worded.findings, c.as_slice.ensures.value) found.ordered) worded.places worded.worded
    found.unsupported
