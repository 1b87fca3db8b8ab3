-- Of findings that are said there is a warning among them exactly where something is so that a warning
-- says.
use Rattle.std.proofs.Common.{◌≡◌, ◌<◌, [], ℕ, true, List, length}
use Rattle.std.specs.Prelude.{◌↔◌}
use Rattle.ps_check_segments.specs.Seen.{Seen}
use Rattle.ps_warnings.specs.Searches.AllFindings.{link_findings_of}
use Rattle.ps_warnings.specs.Found.{Adds, Stated, about_link_in, is_warning, warnings_among}
use Rattle.ps_warnings.specs.WarnedFiles.{AreInOrder, AreSaid, IsSo, Says}
use Rattle.ps_warnings.specs.Weights.{is_certain}
use Rattle.ps_warnings.specs.declared.finding.EntryFinding.TheVariants as entry
use Rattle.ps_warnings.specs.declared.finding.Finding.{Finding}
use Rattle.ps_warnings.specs.declared.finding.Finding.TheVariants as which
use Rattle.ps_warnings.specs.declared.finding.FindingAt.{FindingAt}
use Rattle.ps_warnings.specs.declared.finding.LinkFinding.TheVariants as link
use Rattle.ps_warnings.specs.declared.finding.RecordFinding.TheVariants as finding
use Rattle.ps_warnings.proofs.Found.{only_found}
use Rattle.ps_warnings.proofs.Said.{all_in_order}
use Rattle.ps_warnings.proofs.SaidEach.{are_said}
use Rattle.ps_lists.proofs.Items.{in_some, some_in}

-- what says so is a warning where what is so is one
same_weight : (q f : Finding) → Says q f → is_certain f ≡ is_certain q
same_weight (which.Record (finding.HighDefinition a b c)) f (n, v, e) = rw e
same_weight (which.Record (finding.LowMark a b)) f e = rw e
same_weight (which.Record (finding.PastPrivate a b c)) f (p, d, w, e) = rw e
same_weight (which.Record (finding.PastPublic a b c d g)) f (p, n, k, v, e) = rw e
same_weight (which.Record (finding.OwnDefinition a)) f (n, e) = rw e
same_weight (which.Record (finding.UnitDefinition a)) f (n, e) = rw e
same_weight (which.Entry (entry.Overlap a)) f (o, e, le) = rw e
same_weight (which.Entry (entry.EmptySlot a b c)) f e = rw e
same_weight (which.Link (link.TakenSlot a b)) f e = rw e
same_weight (which.Link (link.OtherSpelling a)) f (n, e) = rw e
same_weight other f h = absurd h

pub warned_said : (paths : List (List ℕ)) (host : List ℕ) (libs : List (List ℕ))
    (list : List Seen) (found : List Stated) → AreSaid paths host libs list found
    → (0 < length (warnings_among found)) ↔ ((thing : Stated) × (is_warning thing ≡ true)
    × IsSo paths host libs list thing thing.finding)
unfolding warnings_among
warned_said paths host libs list found said = (
  λ some. let m = some_in is_warning found some in (m.1, m.3, said.sound m.0 m.1 m.2),
  λ w. let s = said.each w.0 w.2 in in_some is_warning found s.0 s.1 s.2
      (rw (same_weight w.0.finding s.1.finding s.3.says) w.1),
)

-- what is added to nothing is said, in order
module _ (paths : List (List ℕ)) (host : List ℕ) (libs : List (List ℕ)) (list : List Seen)
    (before : List FindingAt) (new : List Stated) (none : before ≡ [])
    (added : Adds (about_link_in before) (link_findings_of paths host libs list) new) where
  only : new ≡ link_findings_of paths host libs list
  only = only_found before (link_findings_of paths host libs list) new none added

  pub added_are_said : AreSaid paths host libs list new
  added_are_said = rw only (are_said paths host libs list)

  pub added_are_in_order : AreInOrder paths host libs list new
  added_are_in_order = rw only (all_in_order paths host libs list)
