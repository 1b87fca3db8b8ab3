-- A text in each of its forms.
use Rattle.std.proofs.Common.{◌≡◌, ◌++◌, ℕ, List}
use Rattle.ps_writing.specs.declared.rows.Form.{Form}
use Rattle.ps_writing.specs.declared.rows.Form.TheVariants.{Lines, Json}
use Rattle.ps_linkfile.specs.MapText.{map_of}
use Rattle.ps_linkfile.specs.ReferencesJson.{IsReferencesJson, Referenced, referenced_in}
use Rattle.ps_linkfile.specs.ReferencesText.{references_of}
use Rattle.ps_resolve.specs.Standing.{NoneStands, NoneStandsInReading}
use Rattle.ps_texts.specs.Texts.{references_text}

pub references_by : (form : Form) (host : List ℕ) (libs : List (List ℕ)) (r : Referenced)
    → referenced_in Lines r ≡ map_of host libs ++ references_of host libs
    → IsReferencesJson host libs (referenced_in Json r)
    → referenced_in form r ≡ references_text form host libs
references_by Lines host libs r lines document = lines
references_by Json host libs r lines document = document

-- where no fault applies, none of reading does
pub none_in_reading : (host : List ℕ) (libs : List (List ℕ)) → NoneStands host libs
    → NoneStandsInReading host libs
none_in_reading host libs none step f reading stands = none step f stands
