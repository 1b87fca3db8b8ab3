-- How a link of files that were read ends, and what it writes.
use Rattle.std.specs.Prelude.{◌≡◌, ◌⊎◌, ℕ, Bool, true, false, List, Option, Some}
use Rattle.ps_arguments.specs.CommandLine.{Text}
use Rattle.ps_arguments.specs.declared.request.Link.{Link}
use Rattle.ps_words.specs.declared.fault.Fault.{Fault}
use Rattle.ps_linkfile.specs.LinkedFile.{LinkedFile, summary_of}
use Rattle.ps_output_files.specs.Links.{IsMapOf, IsPlaceOf, PrintsPlaced, WritesLink, map_path}
use Rattle.ps_output_files.specs.Log.{AddsAll, AddsPart, Log}
use Rattle.ps_output_files.specs.SummaryLine.{summary_text}
use Rattle.ps_output_files.specs.Unwritten.{FailsToWrite}
use Rattle.ps_output_files.specs.World.{World}
use Rattle.ps_output_files.specs.declared.linking.Place.TheVariants as place
use Rattle.ps_writing.specs.Prefixes.{AppendsPrefix}
use Rattle.ps_resolve.specs.FaultNames.{fault_name}
use Rattle.ps_texts.specs.Unmade.{CanRefuse}
use Rattle.ps_texts.specs.declared.kinds.LinkText.TheVariants.{Map}
use Rattle.ps_texts.specs.declared.kinds.TextKind.TheVariants.{OfLink}
use Rattle.ps_writing.specs.declared.rows.Form.{Form}
use Rattle.ps_writing.specs.declared.rows.Form.TheVariants.{Lines, Json}
use Rattle.ps_command.specs.Failures.{CutsFault}
use Rattle.ps_command.specs.Printed.{PrintsFault}
use Rattle.ps_command.specs.Told.{TellsFault}
use Rattle.ps_command.specs.declared.ended.Ended.{Ended}
use Rattle.ps_command.specs.declared.ended.Ended.TheVariants as ended

-- a document is asked for, and not lines
abbrev pub is_document : Form → Bool
is_document Lines = false
is_document Json = true

-- how the link of these files ended: its linked file and its map are written and its summary is
-- printed; or they are refused, and no file was created
abbrev pub IsLinked : {S A : Type 0} → (S → World) → Link A → List Text → List ℕ → List (List ℕ)
    → Ended → S → S → Type 0 → Option (List ℕ) → Option (List ℕ) → Option (List ℕ)
    → Option (List ℕ) → Type 0
IsLinked world link paths host libs ended.Done before after Same old new old_err new_err =
    WritesLink world link.outputs host libs before after
    × PrintsPlaced (world before) link.outputs (summary_of host libs) old new old_err new_err
IsLinked world link paths host libs ended.Refused before after Same old new old_err new_err =
    (f : Fault) × CanRefuse (OfLink Map Lines) host libs f
    × PrintsFault (is_document link.outputs.options.form) paths (Some link.outputs.out.now)
    (fault_name host libs f) f Same old new
    × TellsFault f old_err new_err
    × ((world after).log ≡ (world before).log)
IsLinked world link paths host libs ended.Unread before after Same old new old_err new_err = ⊥

-- what was created by a link of these files that did not write all: a part of what is to be written
abbrev pub LeavesPart : {A : Type 0} → Link A → List ℕ → List (List ℕ) → Log → Log → Type 0
LeavesPart link host libs old new = (file : List ℕ) × LinkedFile host libs file
    × AddsPart link.outputs.out.now (map_path link.outputs) file (IsMapOf link.outputs host libs)
    old new

-- how the link of these files failed, with status 3: standard output took a prefix of the document that
-- they are refused, and no file was created; or a file was not written whole, and nothing is printed; or
-- all of it was, and standard output took a prefix of the summary, whose place it is
abbrev pub FailsLink : {S A : Type 0} → (S → World) → Link A → List Text → List ℕ → List (List ℕ)
    → S → S → Option (List ℕ) → Option (List ℕ) → Type 0
FailsLink world link paths host libs before after old new =
    ((f : Fault) × CanRefuse (OfLink Map Lines) host libs f
    × CutsFault (is_document link.outputs.options.form) paths (Some link.outputs.out.now)
    (fault_name host libs f) f old new
    × ((world after).log ≡ (world before).log))
    ⊎ ((file : List ℕ) × LinkedFile host libs file × (
    ((path : Text) × FailsToWrite (world before) (world after) link.outputs.out.now
    (map_path link.outputs) file (IsMapOf link.outputs host libs) path × (new ≡ old))
    ⊎ (AddsAll link.outputs.out.now (map_path link.outputs) file (IsMapOf link.outputs host libs)
    (world before).log (world after).log
    × IsPlaceOf (world before) link.outputs place.Output
    × AppendsPrefix old new (summary_text link.outputs.options.form (summary_of host libs)))))
