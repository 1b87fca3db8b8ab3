-- What a link of files that were read does: what it writes, where its summary is printed, and why it
-- is not made.
use Rattle.std.specs.Prelude.{◌≡◌, ◌++◌, ℕ, List, Option, None, Some, false, option_map, ⊤}
use Rattle.ps_resolve.specs.Standing.{NoneStands, NoneStandsInReading}
use Rattle.ps_linkfile.specs.LinkedFile.{LinkedFile}
use Rattle.ps_linkfile.specs.MapText.{map_json_of, map_of}
use Rattle.ps_linkfile.specs.Outcomes.{NamesFirst}
use Rattle.ps_linkfile.specs.ReferencesJson.{IsReferencesJson}
use Rattle.ps_linkfile.specs.ReferencesText.{references_of}
use Rattle.ps_linkfile.specs.declared.error.LinkError.TheVariants as link
use Rattle.ps_resolve.specs.declared.linkage.Stop.{Stop}
use Rattle.ps_resolve.specs.declared.linkage.Stop.TheVariants as stop
use Rattle.ps_linkfile.specs.declared.summary.Summary.{Summary}
use Rattle.ps_linkfile.specs.Writing.{file_in}
use Rattle.ps_writing.specs.declared.rows.Form.{Form}
use Rattle.ps_writing.specs.declared.rows.Form.TheVariants.{Lines, Json}
use Rattle.ps_output_files.specs.Log.{AddsAll, Grows, took}
use Rattle.ps_output_files.specs.Places.{IsPlace, PrintsAt}
use Rattle.ps_output_files.specs.Prepared.{map_bytes, plan_of}
use Rattle.ps_output_files.specs.SummaryLine.{summary_text}
use Rattle.ps_output_files.specs.Unwritten.{FailsToWrite}
use Rattle.ps_output_files.specs.World.{World}
use Rattle.ps_arguments.specs.declared.outputs.MapContent.{MapContent}
use Rattle.ps_arguments.specs.declared.outputs.MapContent.TheVariants as content
use Rattle.ps_arguments.specs.declared.outputs.Outputs.{Outputs}
use Rattle.ps_output_files.specs.declared.linking.Place.{Place}
use Rattle.ps_output_files.specs.declared.prepared.Prepared.{Prepared}
use Rattle.ps_output_files.specs.declared.unlinked.Unlinked.{Unlinked}
use Rattle.ps_output_files.specs.declared.unlinked.Unlinked.TheVariants as unlinked

-- the text is the map of a link of these files, and with its references what it stores
abbrev pub IsMapText : MapContent → Form → List ℕ → List (List ℕ) → List ℕ → Type 0
IsMapText content.Places Lines host libs text = text ≡ map_of host libs
IsMapText content.Places Json host libs text = text ≡ map_json_of host libs
IsMapText content.References Lines host libs text = text ≡ map_of host libs ++ references_of host libs
IsMapText content.References Json host libs text = IsReferencesJson host libs text

-- the path of its map, if there is one
abbrev pub map_path : Outputs → Option (List ℕ)
map_path asked = option_map (λ path. path.now) asked.map

-- a text is the map that a link of these files is to have
abbrev pub IsMapOf : Outputs → List ℕ → List (List ℕ) → List ℕ → Type 0
IsMapOf asked host libs text = IsMapText asked.options.content asked.options.form host libs text

-- the file of the map was found not to lead to OUT, once OUT had taken the linked file and before any
-- other was created; `world` says what is known at a time
abbrev pub MapIsApart : {S : Type 0} → (S → World) → Option (List ℕ) → List ℕ → List ℕ → S → Type 0
MapIsApart {S} world None out file old = ⊤
MapIsApart {S} world (Some map) out file old = (between : S)
    × Grows (world old).log (world between).log (took out file)
    × (world between).one_file map out false

-- OUT took the linked file of these files, and then the file of the map, if there is one, their map
abbrev pub WritesLink : {S : Type 0} → (S → World) → Outputs → List ℕ → List (List ℕ) → S → S → Type 0
WritesLink world asked host libs old new = (file : List ℕ) × LinkedFile host libs file
    × AddsAll asked.out.now (map_path asked) file (IsMapOf asked host libs) (world old).log
    (world new).log
    × MapIsApart world (map_path asked) asked.out.now file old

-- what was created where files are not linked: nothing where they are refused or memory runs out; of
-- files that link, a part of what is to be written where the file at a path was not written whole, and all
-- where standard output failed
abbrev pub AddsBefore : Outputs → List ℕ → List (List ℕ) → World → World → Unlinked → Type 0
AddsBefore asked host libs old new (unlinked.Refused fault) = new.log ≡ old.log
AddsBefore asked host libs old new unlinked.Memory = new.log ≡ old.log
AddsBefore asked host libs old new (unlinked.Write path) = (file : List ℕ)
    × LinkedFile host libs file
    × FailsToWrite old new asked.out.now (map_path asked) file (IsMapOf asked host libs) path.now
AddsBefore asked host libs old new unlinked.StandardOutput = (file : List ℕ)
    × LinkedFile host libs file
    × AddsAll asked.out.now (map_path asked) file (IsMapOf asked host libs) old.log new.log

-- the same of a link that was prepared
abbrev pub IsMapIn : {A : Type 0} → Form → Prepared A → List ℕ → Type 0
IsMapIn form p text = text ≡ map_bytes form p

abbrev pub AddsPrepared : {A : Type 0} → Outputs → Prepared A → World → World → Type 0
AddsPrepared asked p old new = AddsAll asked.out.now (map_path asked) (file_in (plan_of p))
    (IsMapIn asked.options.form p) old.log new.log

abbrev pub AddsBeforePrepared : {A : Type 0} → Outputs → Prepared A → World → World → Unlinked
    → Type 0
AddsBeforePrepared asked p old new (unlinked.Refused fault) = ⊥
AddsBeforePrepared asked p old new unlinked.Memory = new.log ≡ old.log
AddsBeforePrepared asked p old new (unlinked.Write path) = FailsToWrite old new asked.out.now
    (map_path asked) (file_in (plan_of p)) (IsMapIn asked.options.form p) path.now
AddsBeforePrepared asked p old new unlinked.StandardOutput = AddsPrepared asked p old new

-- where its summary is printed
abbrev pub IsPlaceOf : World → Outputs → Place → Type 0
IsPlaceOf world asked where_to =
    IsPlace world.leads asked.options asked.out.now (map_path asked) where_to

-- by this summary, at its place
abbrev pub PrintsPlaced : World → Outputs → Summary → Option (List ℕ) → Option (List ℕ)
    → Option (List ℕ) → Option (List ℕ) → Type 0
PrintsPlaced world asked summary old new old_err new_err =
    (where_to : Place) × IsPlaceOf world asked where_to
    × PrintsAt where_to (summary_text asked.options.form summary) old new old_err new_err

-- why nothing is linked that has no plan
abbrev pub unlinked_of : Stop → Unlinked
unlinked_of (stop.Refused fault) = unlinked.Refused fault
unlinked_of stop.Memory = unlinked.Memory

-- the fault that a refusal names is the first of all that apply; memory runs out only where none
-- applies in the steps of reading, and a write fails only where none applies
abbrev pub IsWhyUnlinked : List ℕ → List (List ℕ) → Unlinked → Type 0
IsWhyUnlinked host libs (unlinked.Refused fault) = NamesFirst host libs (link.Refused fault)
IsWhyUnlinked host libs unlinked.Memory = NoneStandsInReading host libs
IsWhyUnlinked host libs (unlinked.Write path) = NoneStands host libs
IsWhyUnlinked host libs unlinked.StandardOutput = NoneStands host libs
