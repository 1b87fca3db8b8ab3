-- Why a command ends with status 3 that was not done, and how much of what it prints a known standard
-- output then has taken. A `World` says what paths gave, and which files were created.
use Rattle.std.specs.Prelude.{◌≡◌, ◌≢◌, ◌⊎◌, ◌∷◌, [], ℕ, Any, Bool, true, false, List, Option, None, Some, codes}
use Rattle.std.specs.List.{AllZip}
use Rattle.std.specs.Io.KnownBytes.{Appends}
use Rattle.ps_arguments.specs.CommandLine.{Kinds, Row, Text, faults_in, named_in}
use Rattle.ps_arguments.specs.Outputs.{form_of, has_references, is_json, is_strict, is_unit, link_options}
use Rattle.ps_arguments.specs.Requests.{EndsWithLine, MayAskForHelp, MayAskForVersion, file_of, host_of, libraries_of, map_file, out_and_libraries}
use Rattle.ps_words.specs.declared.fault.Fault.{Fault}
use Rattle.ps_writing.specs.Prefixes.{AppendsPrefix}
use Rattle.ps_writing.specs.declared.rows.Form.TheVariants.{Lines}
use Rattle.ps_linkfile.specs.LinkedFile.{LinkedFile, summary_of}
use Rattle.ps_resolve.specs.FaultNames.{fault_name}
use Rattle.ps_texts.specs.Paths.{path_of}
use Rattle.ps_texts.specs.Texts.{IsTextOf}
use Rattle.ps_texts.specs.Unmade.{CanRefuse}
use Rattle.ps_texts.specs.declared.kinds.HostText.TheVariants as of_host
use Rattle.ps_texts.specs.declared.kinds.LinkText.TheVariants as of_link
use Rattle.ps_texts.specs.declared.kinds.NamedText.TheVariants as of_named
use Rattle.ps_texts.specs.declared.kinds.ReportText.TheVariants as of_report
use Rattle.ps_texts.specs.declared.kinds.TextKind.{TextKind}
use Rattle.ps_texts.specs.declared.kinds.TextKind.TheVariants as kind
use Rattle.ps_output_files.specs.Log.{AddsAll}
use Rattle.ps_output_files.specs.Places.{IsPlace}
use Rattle.ps_output_files.specs.SummaryLine.{summary_text}
use Rattle.ps_output_files.specs.Unwritten.{FailsToWrite}
use Rattle.ps_output_files.specs.World.{Reads, World}
use Rattle.ps_output_files.specs.declared.linking.Place.TheVariants as place
use Rattle.ps_command.specs.Printed.{IsMapNamed, map_kind, refusal_json, version_line}
use Rattle.ps_command.specs.ReadFaults.{IsReadFault}
use Rattle.ps_command.specs.declared.files.FileFault.{FileFault}
use Rattle.ps_command.specs.declared.files.FileFault.TheVariants as fault

-- the file at a path could not be read, and not since memory was refused
abbrev pub IsUnreadable : World → Text → Type 0
IsUnreadable world path = (why : FileFault) × (why ≢ fault.Memory) × IsReadFault world path why

-- by a prefix of the document of files that are refused, if a document is asked for; else nothing is
-- printed of them, and nothing fails
abbrev pub CutsFault : Bool → List Text → Option Text → Option (List ℕ) → Fault → Option (List ℕ)
    → Option (List ℕ) → Type 0
CutsFault true paths out name f old new =
    AppendsPrefix old new (refusal_json (path_of paths f.file) out name f)
CutsFault false paths out name f old new = ⊥

-- by a prefix of a text of these files, or of the document that they are refused
abbrev pub CutsText : TextKind → Bool → Bool → List Text → List ℕ → List (List ℕ)
    → Option (List ℕ) → Option (List ℕ) → Type 0
CutsText k strict json paths host libs old new =
    ((status : ℕ) × (text : List ℕ) × IsTextOf k strict paths host libs status text
    × AppendsPrefix old new text)
    ⊎ ((f : Fault) × CanRefuse k host libs f
    × CutsFault json paths None (fault_name host libs f) f old new)

-- why a text of the files at these paths is not printed: one of them could not be read, and nothing is
-- printed; or they were read, and standard output failed
abbrev pub FailsToPrint : World → TextKind → Bool → Bool → Text → List Text → Option (List ℕ)
    → Option (List ℕ) → Type 0
FailsToPrint world k strict json path paths old new =
    (Any (IsUnreadable world) (path ∷ paths) × (new ≡ old))
    ⊎ ((host : List ℕ) × (libs : List (List ℕ)) × Reads world path host
    × AllZip (Reads world) paths libs × CutsText k strict json (path ∷ paths) host libs old new)

-- how a link of files that were read fails: standard output took a prefix of the document that they are
-- refused, and no file was created; or OUT or the file of the map was not written whole, and nothing is
-- printed; or both were, and standard output took a prefix of the summary, whose place it is
abbrev pub FailsRead : {S : Type 0} → (S → World) → List Row → Text → Text → List Text → List ℕ
    → List (List ℕ) → S → S → Option (List ℕ) → Option (List ℕ) → Type 0
FailsRead world rows path out libraries host libs before after old new =
    ((f : Fault) × CanRefuse (kind.OfLink of_link.Map Lines) host libs f
    × CutsFault (is_json rows) (path ∷ libraries) (Some out) (fault_name host libs f) f old new
    × ((world after).log ≡ (world before).log))
    ⊎ ((file : List ℕ) × LinkedFile host libs file × (
    ((failed : Text) × FailsToWrite (world before) (world after) out (map_file rows) file
    (IsMapNamed rows (path ∷ libraries) host libs) failed × (new ≡ old))
    ⊎ (AddsAll out (map_file rows) file (IsMapNamed rows (path ∷ libraries) host libs)
    (world before).log (world after).log
    × IsPlace (world before).leads (link_options rows) out (map_file rows) place.Output
    × AppendsPrefix old new (summary_text (form_of (is_json rows)) (summary_of host libs)))))

-- why a link is not done: a file that is named could not be read, and nothing is printed or created; or
-- they were read
abbrev pub FailsToLink : {S : Type 0} → (S → World) → List Row → Text → S → S → Option (List ℕ)
    → Option (List ℕ) → Type 0
FailsToLink world rows path before after old new =
    (out : Text) × (libraries : List Text) × (out_and_libraries rows ≡ Some (out, libraries)) × (
    (Any (IsUnreadable (world before)) (path ∷ libraries)
    × ((world after).log ≡ (world before).log) × (new ≡ old))
    ⊎ ((host : List ℕ) × (libs : List (List ℕ)) × Reads (world before) path host
    × AllZip (Reads (world before)) libraries libs
    × FailsRead world rows path out libraries host libs before after old new))

-- a known standard output took some bytes more
abbrev pub TakesMore : Option (List ℕ) → Option (List ℕ) → Type 0
TakesMore old new = (bytes : List ℕ) × Appends old new bytes

-- why a check is not done, of a host and libraries, or of units by themselves
abbrev pub FailsToCheck : World → Bool → Text → List Text → Bool → Bool → Option (List ℕ)
    → Option (List ℕ) → Type 0
FailsToCheck world false path paths strict json old new =
    FailsToPrint world (kind.Named (of_named.OfReport of_report.Whole (form_of json))) strict false
    path paths old new
FailsToCheck world true path paths strict json old new = TakesMore old new

-- why the command that is named is not done: of lists it is only said that standard output took some
-- bytes more
abbrev pub FailsNamed : {S : Type 0} → (S → World) → Option (Text × List Row) → S → S
    → Option (List ℕ) → Option (List ℕ) → Type 0
FailsNamed world named before after old new =
    (rows : List Row) × (path : Text) × (
    ((named ≡ Some (codes "link", rows)) × (host_of rows ≡ Some path)
    × FailsToLink world rows path before after old new)
    ⊎ ((named ≡ Some (codes "map", rows)) × (host_of rows ≡ Some path)
    × FailsToPrint (world before) (map_kind (has_references rows) (is_json rows)) false
    (is_json rows) path (libraries_of rows) old new)
    ⊎ ((named ≡ Some (codes "show", rows)) × (file_of rows ≡ Some path)
    × FailsToPrint (world before) (kind.OfHost (of_host.Show (form_of (is_json rows)))) false
    (is_json rows) path [] old new)
    ⊎ ((named ≡ Some (codes "check", rows)) × (host_of rows ≡ Some path)
    × FailsToCheck (world before) (is_unit rows) path (libraries_of rows) (is_strict rows)
    (is_json rows) old new)
    ⊎ ((named ≡ Some (codes "list", rows)) × TakesMore old new))

-- by a prefix of the line of the version, or of the help
abbrev pub CutsHelp : Kinds → Option (List ℕ) → Option (List ℕ) → Type 0
CutsHelp faults old new = (MayAskForVersion faults × AppendsPrefix old new version_line)
    ⊎ (MayAskForHelp faults × (text : List ℕ) × EndsWithLine text × AppendsPrefix old new text)

-- why what the arguments ask for is not done: the command that is named, or the help or the version
abbrev pub Fails : {S : Type 0} → (S → World) → List Text → S → S → Option (List ℕ)
    → Option (List ℕ) → Type 0
Fails world args before after old new =
    ((faults_in args ≡ []) × FailsNamed world (named_in args) before after old new)
    ⊎ CutsHelp (faults_in args) old new
