-- The map of a link in each of its forms.
use Rattle.std.proofs.Common.{◌≡◌, ◌++◌, List, ℕ}
use Rattle.ps_linkfile.specs.MapText.{map_of}
use Rattle.ps_linkfile.specs.ReferencesJson.{IsReferencesJson, Referenced, referenced_in}
use Rattle.ps_linkfile.specs.ReferencesText.{references_of}
use Rattle.ps_writing.specs.declared.rows.Form.{Form}
use Rattle.ps_writing.specs.declared.rows.Form.TheVariants.{Lines, Json}
use Rattle.ps_output_files.specs.Links.{IsMapText}
use Rattle.ps_arguments.specs.declared.outputs.MapContent.TheVariants as content

pub references_by : (form : Form) (r : Referenced) (host : List ℕ) (libs : List (List ℕ))
    → referenced_in Lines r ≡ map_of host libs ++ references_of host libs
    → IsReferencesJson host libs (referenced_in Json r)
    → IsMapText content.References form host libs (referenced_in form r)
references_by Lines r host libs lines document = lines
references_by Json r host libs lines document = document
