-- The map of a link and what it stores, as lines and as JSON.
-- Source: RFC 8259; which members there are is this project's profile.
use Rattle.std.specs.Prelude.{◌≡◌, ℕ, List, ◌++◌}
use Rattle.ps_resolve.specs.Plans.{Planned}
use Rattle.ps_linkfile.specs.MapText.{members_of, plan_rows}
use Rattle.ps_linkfile.specs.ReferencesText.{StoredIn, all_stored_of, references_in}
use Rattle.ps_writing.specs.declared.rows.Form.{Form}
use Rattle.ps_writing.specs.declared.rows.Form.TheVariants.{Lines, Json}

-- a plan of a link, and what is listed of its segments
pub record Referenced : Type 0 where
  pub plan : Planned
  pub all_stored : List StoredIn

-- the map, and after it what is stored
abbrev pub referenced_in : Form → Referenced → List ℕ
referenced_in form r = plan_rows form r.plan ++ references_in form r.all_stored

-- the map with its references as text, and as a document
abbrev pub references_text : Referenced → List ℕ
references_text r = referenced_in Lines r

abbrev pub referenced_json : Referenced → List ℕ
referenced_json r = referenced_in Json r

-- the text is the document of a host and its libraries
abbrev pub IsReferencesJson : List ℕ → List (List ℕ) → List ℕ → Type 0
IsReferencesJson host libs text =
    text ≡ members_of host libs ++ references_in Json (all_stored_of host libs)
