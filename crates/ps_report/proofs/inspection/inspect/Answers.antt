use Rattle.std.proofs.Common.{◌≡◌, ◌∙◌, List, ℕ, None, Some, ap, append-nil, map, refl, rules, subst, sym}
use Rattle.std.specs.Prelude.{Option}
use Rattle.ps_words.specs.declared.fault.Fault.{Fault}
use Rattle.ps_check_segments.specs.Paths.{paths_in}
use Rattle.ps_check_segments.specs.Seen.{Seen, seen}
use Rattle.ps_check_segments.specs.SeenSegments.{seen_segments}
use Rattle.ps_resolve.specs.AllFaults.{reading_fault}
use Rattle.ps_resolve.specs.Readings.{ReadFiles}
use Rattle.ps_resolve.specs.Sources.{contents}
use Rattle.ps_explained.specs.OverviewText.{overview_text}
use Rattle.ps_explained.specs.SegmentLines.{has_unread, read_lines}
use Rattle.ps_explained.proofs.ReadLines.{read_lines_are}
use Rattle.ps_warnings.specs.Found.{Stated, about_link}
use Rattle.ps_warnings.specs.WarnedFiles.{AreInOrder, AreSaid}
use Rattle.ps_report.specs.Reports.{told_after, told_of_host}
use Rattle.ps_report.proofs.inspection.inspect.Goals as goal

-- the segments of which a report tells
told_is : (told list : List Seen) (host : List ℕ) (fault : Option Fault)
    → ((why : Fault) → fault ≡ Some why → told ≡ told_of_host host list)
    → (fault ≡ None → told ≡ list) → told ≡ told_after fault host list
told_is told list host None refused all = all refl
told_is told list host (Some why) refused all = refused why refl

pub returns : goal.returns
returns g c =
    let host = c.args.files.now.host.now in
    let libs = contents c.args.files.now.libs.now in
    let paths : List (List ℕ) = paths_in c.args.files.now in
    let list : map seen c.in_ok-list.list.items ≡ seen_segments host libs =
    rw c.requires at c.in_ok-list.ensures in
    let seen_are = ap (map seen) c.as_slice.ensures.value ∙ list in
    let found_in = ap (map seen) c.as_slice-2.ensures.value ∙ list in
    let read = ap (λ (f : ReadFiles). reading_fault f.host f.libs) c.requires in
    let all = λ (none : reading_fault host libs ≡ None).
    c.told_segments-told.ensures.all (read ∙ none) ∙ seen_are in
    let refused = λ (why : Fault) (is : reading_fault host libs ≡ Some why).
    c.told_segments-told.ensures.refused why (read ∙ is) ∙ ap (told_of_host host) seen_are in
    let same = sym (c.in_ok-add_other_counts.ensures.all ∙ append-nil _) in
    let lines = λ (l : List Seen). read_lines paths (has_unread host libs) l in
    record {
      files = search rules;
      silent = search rules;
      linked = λ none. c.in_ok-overview.ensures.read ∙ (ap lines (all none)
          ∙ read_lines_are paths (has_unread host libs) host libs none);
      read = λ why is. c.in_ok-overview.ensures.read ∙ ap lines (refused why is);
      told = c.in_ok-overview.ensures.segments ∙ ap (overview_text paths host libs)
          (told_is (map seen c.told_segments-told.result.now) (seen_segments host libs) host
          (reading_fault host libs) refused all);
      name = rw c.requires at c.verdict_name-name.ensures;
      explanation = search rules;
      unsupported = search rules;
      said = subst (λ (f : List Stated). AreSaid paths host libs (seen_segments host libs) f)
          same (rw found_in at c.in_ok-findings.ensures.said);
      ordered = subst (λ (f : List Stated). AreInOrder paths host libs (seen_segments host libs) f)
          same (rw found_in at c.in_ok-findings.ensures.ordered);
    }
