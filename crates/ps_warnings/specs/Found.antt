-- The findings about the link, which are those that have definitions: which they are among all that
-- is found, and where each is.
use Rattle.std.specs.Prelude.{◌≡◌, ℕ, if◌then◌else◌, List, [], ◌∷◌, ◌++◌, map, Bool, true, false, Option, Some, None}
use Rattle.std.specs.List.{filter}
use Rattle.ps_warnings.specs.Weights.{is_certain}
use Rattle.ps_warnings.specs.declared.findings.Findings.{Findings}
use Rattle.ps_warnings.specs.declared.finding.Finding.{Finding}
use Rattle.ps_warnings.specs.declared.finding.Finding.TheVariants as which
use Rattle.ps_warnings.specs.declared.finding.FindingAt.{FindingAt}

-- a finding, with the path of its file, the name of its segment and the number of its record there
pub record Stated : Type 0 where
  pub path : List ℕ
  pub segment : Option (List ℕ)
  pub rec : Option ℕ
  pub finding : Finding

abbrev pub stated : FindingAt → Stated
stated f = record
    { path = f.place.path.now; segment = f.place.segment; rec = f.place.rec; finding = f.finding }

-- the finding is about the link: it has a definition
abbrev pub is_about_link : Finding → Bool
is_about_link (which.Entry f) = true
is_about_link (which.Record f) = true
is_about_link (which.Link f) = true
is_about_link other = false

-- the findings about the link among these, in their order
unfoldable pub about_link_in : List FindingAt → List Stated
about_link_in found = filter (λ s. is_about_link s.finding) (map stated found)

abbrev pub about_link : {A : Type 0} → Findings A → List Stated
about_link found = about_link_in found.list.items

-- what is found about the link is added, in its order, and nothing else
pub record Adds (old found new : List Stated) : Type 0 where
  pub all : new ≡ old ++ found

-- a finding at a place, if it is about the link
abbrev pub stated_at : List ℕ → Option (List ℕ) → Option ℕ → Finding → List Stated
stated_at path segment rec f = if is_about_link f
    then record { path = path; segment = segment; rec = rec; finding = f } ∷ [] else []

-- what was found at a place or not, if it is about the link
abbrev pub found_at : List ℕ → Option (List ℕ) → Option ℕ → Option Finding → List Stated
found_at path segment rec None = []
found_at path segment rec (Some f) = stated_at path segment rec f

-- what was found in a record of a segment or not, if it is about the link
abbrev pub found_in_record : List ℕ → Option (List ℕ) → Option (ℕ × Finding)
    → List Stated
found_in_record path segment None = []
found_in_record path segment (Some found) = stated_at path segment (Some found.0) found.1

-- the finding is a warning
abbrev pub is_warning : Stated → Bool
is_warning s = is_certain s.finding

-- the warnings among findings, in their order
unfoldable pub warnings_among : List Stated → List Stated
warnings_among found = filter is_warning found
