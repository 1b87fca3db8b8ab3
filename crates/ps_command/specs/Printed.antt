-- What is printed on standard output once a command is done, by the command and the files that are
-- named, and what a link has written. A `World` says what paths gave, and which files were created.
use Rattle.std.specs.Prelude.{◌≡◌, ◌⊎◌, ◌++◌, ◌∷◌, [], ℕ, Bool, true, false, List, Option, None, Some, codes, max}
use Rattle.std.specs.List.{AllZip}
use Rattle.std.specs.Io.KnownBytes.{Appends}
use Rattle.ps_arguments.specs.CommandLine.{Kinds, Row, Text}
use Rattle.ps_words.specs.declared.fault.Fault.{Fault}
use Rattle.ps_writing.specs.FaultJson.{fault_json}
use Rattle.ps_writing.specs.JsonStrings.{json_text}
use Rattle.ps_writing.specs.declared.rows.Form.TheVariants.{Lines}
use Rattle.ps_linkfile.specs.LinkedFile.{LinkedFile, summary_of}
use Rattle.ps_filetype.specs.CodeTypes.{is_code_type}
use Rattle.ps_listing.specs.FileLists.{unread}
use Rattle.ps_listing.specs.declared.lists.ListForm.{ListForm}
use Rattle.ps_listing.specs.declared.lists.ListForm.TheVariants as form
use Rattle.ps_resolve.specs.FaultNames.{fault_name}
use Rattle.ps_texts.specs.Paths.{path_of}
use Rattle.ps_texts.specs.Texts.{IsTextOf}
use Rattle.ps_texts.specs.Unmade.{CanRefuse}
use Rattle.ps_texts.specs.declared.kinds.HostText.TheVariants as of_host
use Rattle.ps_texts.specs.declared.kinds.LinkText.TheVariants as of_link
use Rattle.ps_texts.specs.declared.kinds.NamedText.TheVariants as of_named
use Rattle.ps_texts.specs.declared.kinds.ReportText.TheVariants as of_report
use Rattle.ps_texts.specs.declared.kinds.TextKind.{TextKind}
use Rattle.ps_texts.specs.declared.kinds.TextKind.TheVariants as kind
use Rattle.ps_output_files.specs.Links.{MapIsApart}
use Rattle.ps_output_files.specs.Log.{AddsAll, AddsPart}
use Rattle.ps_output_files.specs.Places.{IsPlace, PrintsAt}
use Rattle.ps_output_files.specs.SummaryLine.{summary_text}
use Rattle.ps_output_files.specs.World.{Reads, World}
use Rattle.ps_arguments.specs.Outputs.{form_of, has_output, has_references, is_json, is_strict, is_unit, link_options, map_content, out_by}
use Rattle.ps_arguments.specs.Requests.{EndsWithLine, IsApartFrom, IsNoHost, IsOther, MayAskForHelp, MayAskForVersion, file_of, files_of, host_of, libraries_of, map_file, out_and_libraries}
use Rattle.ps_command.specs.Lists.{IsListText, list_status}
use Rattle.ps_command.specs.ReadFaults.{IsNotRead}
use Rattle.ps_command.specs.Told.{TellsFault}
use Rattle.ps_output_files.specs.declared.linking.Place.{Place}
use Rattle.ps_output_files.specs.declared.linking.Place.TheVariants as place

-- by a text of a host that was read at its path and of libraries that were read at theirs, one for
-- one in their order, which ends with this status
abbrev pub PrintsTextOf : World → TextKind → Bool → Text → List Text → ℕ → Option (List ℕ)
    → Option (List ℕ) → Type 0
PrintsTextOf world k strict path paths status old new =
    (host : List ℕ) × (libs : List (List ℕ)) × (text : List ℕ) × Reads world path host
    × AllZip (Reads world) paths libs × IsTextOf k strict (path ∷ paths) host libs status text
    × Appends old new text

-- the map of a link, and with its references what it stores
abbrev pub map_kind : Bool → Bool → TextKind
map_kind false json = kind.OfLink of_link.Map (form_of json)
map_kind true json = kind.OfLink of_link.References (form_of json)

-- a text is the map that a link of these files is to have, as `map` prints it
abbrev pub IsMapNamed : List Row → List Text → List ℕ → List (List ℕ) → List ℕ → Type 0
IsMapNamed rows paths host libs text =
    IsTextOf (map_kind (has_references rows) (is_json rows)) false paths host libs 0 text

-- of files that were read at these paths, the linked file was written to OUT, and then their map to
-- its file, if there is one; no other file was created. OUT is no library, nor the host where its option
-- names it, and the file of the map is no file of the link.
abbrev pub WritesNamed : {S : Type 0} → (S → World) → List Row → Text → Text → List Text → List ℕ
    → List (List ℕ) → S → S → Type 0
WritesNamed world rows path out libraries host libs old new = (file : List ℕ)
    × Reads (world old) path host × AllZip (Reads (world old)) libraries libs
    × LinkedFile host libs file
    × IsOther (world old).one_file out libraries
    × IsNoHost (world old).one_file (out_by (has_output rows)) out path
    × IsApartFrom (world old).one_file (map_file rows) (map_content (has_references rows)) out path
    libraries
    × AddsAll out (map_file rows) file (IsMapNamed rows (path ∷ libraries) host libs)
    (world old).log (world new).log
    × MapIsApart world (map_file rows) out file old

-- a link writes its files, and the summary of the link is printed at its place
abbrev pub PrintsLink : {S : Type 0} → (S → World) → List Row → Text → S → S → Option (List ℕ)
    → Option (List ℕ) → Option (List ℕ) → Option (List ℕ) → Type 0
PrintsLink world rows path before after old new old_err new_err =
    (out : Text) × (libraries : List Text) × (host : List ℕ) × (libs : List (List ℕ))
    × (where_to : Place) × (out_and_libraries rows ≡ Some (out, libraries))
    × WritesNamed world rows path out libraries host libs before after
    × IsPlace (world before).leads (link_options rows) out (map_file rows) where_to
    × PrintsAt where_to (summary_text (form_of (is_json rows)) (summary_of host libs)) old new
    old_err new_err

-- a link of files that were read at these paths created a part of what it was to write, from OUT on
abbrev pub LinkLeavesPart : {S : Type 0} → (S → World) → List Row → Text → S → S → Type 0
LinkLeavesPart world rows path before after =
    (out : Text) × (libraries : List Text) × (host : List ℕ) × (libs : List (List ℕ))
    × (file : List ℕ) × (out_and_libraries rows ≡ Some (out, libraries))
    × Reads (world before) path host × AllZip (Reads (world before)) libraries libs
    × LinkedFile host libs file
    × AddsPart out (map_file rows) file (IsMapNamed rows (path ∷ libraries) host libs)
    (world before).log (world after).log

-- a link that is named did
abbrev pub NamedLeavesPart : {S : Type 0} → (S → World) → Option (Text × List Row) → S → S → Type 0
NamedLeavesPart world named before after = (rows : List Row) × (path : Text)
    × (named ≡ Some (codes "link", rows)) × (host_of rows ≡ Some path)
    × LinkLeavesPart world rows path before after

-- a link that is named prints its summary on standard error
abbrev pub TellsOnError : World → Option (Text × List Row) → Type 0
TellsOnError world named =
    (rows : List Row) × (out : Text) × (libraries : List Text)
    × (named ≡ Some (codes "link", rows)) × (out_and_libraries rows ≡ Some (out, libraries))
    × IsPlace world.leads (link_options rows) out (map_file rows) place.Error

-- of a link, in the document of its refusal, the path that was taken for OUT: `,"out":"OUT"`; another
-- command has no OUT
abbrev pub out_json : Option Text → List ℕ
out_json None = []
out_json (Some out) = codes ",\"out\":\"" ++ json_text out ++ codes "\""

-- the document of files that are refused: the path of the file that the fault is in, that of OUT, if
-- they were to be linked, and the fault with the name of what it is about
abbrev pub refusal_json : Text → Option Text → Option (List ℕ) → Fault → List ℕ
refusal_json path out name f = codes "{\"path\":\"" ++ json_text path ++ codes "\""
    ++ out_json out ++ codes ",\"fault\":" ++ fault_json name f ++ codes "}\n"

-- by that document, if a document is asked for, and else by nothing: standard output is as it was,
-- which `Same` says of any writer
abbrev pub PrintsFault : Bool → List Text → Option Text → Option (List ℕ) → Fault → Type 0
    → Option (List ℕ) → Option (List ℕ) → Type 0
PrintsFault true paths out name f Same old new =
    Appends old new (refusal_json (path_of paths f.file) out name f)
PrintsFault false paths out name f Same old new = Same

-- so, of files that were read at these paths, with status 1: of their faults it is the one for which this
-- text of them is not made, and its line is written to standard error
abbrev pub PrintsRefusal : World → TextKind → Bool → Text → List Text → Option Text → ℕ → Type 0
    → Option (List ℕ) → Option (List ℕ) → Option (List ℕ) → Option (List ℕ) → Type 0
PrintsRefusal world k json path paths out status Same old new old_err new_err =
    (status ≡ 1) × (host : List ℕ) × (libs : List (List ℕ)) × (f : Fault)
    × Reads world path host × AllZip (Reads world) paths libs × CanRefuse k host libs f
    × PrintsFault json (path ∷ paths) out (fault_name host libs f) f Same old new
    × TellsFault f old_err new_err

-- a text of files is printed, or that they are refused
abbrev pub IsPrinted : TextKind → Bool → Bool → List Text → List ℕ → List (List ℕ) → ℕ → Type 0
    → Option (List ℕ) → Option (List ℕ) → Option (List ℕ) → Option (List ℕ) → Type 0
IsPrinted k strict json paths host libs status Same old new old_err new_err =
    ((text : List ℕ) × IsTextOf k strict paths host libs status text × Appends old new text)
    ⊎ ((status ≡ 1) × (f : Fault) × CanRefuse k host libs f
    × PrintsFault json paths None (fault_name host libs f) f Same old new
    × TellsFault f old_err new_err)

-- by a text; or the files are refused
abbrev pub PrintsOrRefuses : World → TextKind → Bool → Text → List Text → ℕ → Type 0
    → Option (List ℕ) → Option (List ℕ) → Option (List ℕ) → Option (List ℕ) → Type 0
PrintsOrRefuses world k json path paths status Same old new old_err new_err =
    PrintsTextOf world k false path paths status old new
    ⊎ PrintsRefusal world k json path paths None status Same old new old_err new_err

-- by a summary; or the files are refused, and no file was created
abbrev pub LinksOrRefuses : {S : Type 0} → (S → World) → List Row → Text → ℕ → S → S → Type 0
    → Option (List ℕ) → Option (List ℕ) → Option (List ℕ) → Option (List ℕ) → Type 0
LinksOrRefuses world rows path status before after Same old new old_err new_err =
    ((status ≡ 0) × PrintsLink world rows path before after old new old_err new_err)
    ⊎ ((out : Text) × (libraries : List Text)
    × (out_and_libraries rows ≡ Some (out, libraries))
    × PrintsRefusal (world before) (kind.OfLink of_link.Map Lines) (is_json rows) path libraries
    (Some out) status Same old new old_err new_err
    × ((world after).log ≡ (world before).log))

-- by nothing, where the file at a path cannot be read; or in a document by an item that says so
abbrev pub PrintsUnread : ListForm → Bool → Text → Option (List ℕ) → Option (List ℕ)
    → Type 0
PrintsUnread form.Json first path old new = Appends old new (unread first path)
PrintsUnread form.JsonUnits first path old new = Appends old new (unread first path)
PrintsUnread how first path old new = new ≡ old

-- by the list of the file that was read at a path, which ends with its status; or by what there is
-- of a file that was not read, or not listed
abbrev pub IsListed : World → ListForm → Bool → Text → ℕ
    → Option (List ℕ) → Option (List ℕ) → Type 0
IsListed world how first path status old new =
    ((file : List ℕ) × (text : List ℕ) × Reads world path file × (status ≡ list_status how file)
    × IsListText (is_code_type file) how first path file text × Appends old new text)
    ⊎ ((status ≡ 3) × IsNotRead world path × PrintsUnread how first path old new)

-- by the lists of the files at these paths, one after another, of which the first is that of all or
-- not; they end with the greatest status
abbrev pub PrintsFiles : World → ListForm → Bool → List Text
    → ℕ → Option (List ℕ) → Option (List ℕ) → Type 0
PrintsFiles world how is_first [] status old new = (status ≡ 0) × (new ≡ old)
PrintsFiles world how is_first (path ∷ paths) status old new =
    (first : ℕ) × (rest : ℕ) × (between : Option (List ℕ))
    × IsListed world how is_first path first old between
    × PrintsFiles world how false paths rest between new × (status ≡ max first rest)

-- what a document of lists has before its items and after them
abbrev pub document_start : List ℕ
document_start = codes "{\"files\":["

abbrev pub document_end : List ℕ
document_end = codes "\n]}\n"

-- by one document of the lists of the files at these paths
abbrev pub PrintsDocument : World → ListForm → List Text → ℕ
    → Option (List ℕ) → Option (List ℕ) → Type 0
PrintsDocument world how paths status old new =
    (started : Option (List ℕ)) × (ended : Option (List ℕ))
    × Appends old started document_start
    × PrintsFiles world how true paths status started ended
    × Appends ended new document_end

-- by the lists of the files at these paths; or by one document of them
abbrev pub PrintsLists : World → ListForm → List Text → ℕ
    → Option (List ℕ) → Option (List ℕ) → Type 0
PrintsLists world form.Json paths status old new =
    PrintsDocument world form.Json paths status old new
PrintsLists world form.JsonUnits paths status old new =
    PrintsDocument world form.JsonUnits paths status old new
PrintsLists world how paths status old new =
    PrintsFiles world how true paths status old new

-- how a list is printed
abbrev pub list_form : Bool → ListForm
list_form false = form.Lines
list_form true = form.Json

-- how the lists of files are printed that have their units
abbrev pub units_form : Bool → ListForm
units_form false = form.Units
units_form true = form.JsonUnits

-- by a report of a host and libraries; or by the lists of these files, each with its units by
-- themselves
abbrev pub PrintsCheck : World → Bool → Text → List Text
    → Bool → Bool → ℕ → Option (List ℕ) → Option (List ℕ) → Type 0
PrintsCheck world false path paths strict json status old new =
    PrintsTextOf world (kind.Named (of_named.OfReport of_report.Whole (form_of json))) strict path
    paths status old new
PrintsCheck world true path paths strict json status old new =
    PrintsLists world (units_form json) (path ∷ paths) status old new

-- by what the command that is named prints of the files that are named for it, which ends with this
-- status; `Same` says that standard output is as it was. Of standard error it says only what a link
-- prints there, and what is told of files that a link, a map or a show refuses. No command but a link
-- creates a file.
abbrev pub Prints : {S : Type 0} → (S → World) → Option (Text × List Row) → ℕ → S → S → Type 0
    → Option (List ℕ) → Option (List ℕ) → Option (List ℕ) → Option (List ℕ) → Type 0
Prints world named status before after Same old new old_err new_err =
    (rows : List Row) × (path : Text) × (
    ((named ≡ Some (codes "link", rows)) × (host_of rows ≡ Some path)
    × LinksOrRefuses world rows path status before after Same old new old_err new_err)
    ⊎ ((named ≡ Some (codes "map", rows)) × (host_of rows ≡ Some path)
    × PrintsOrRefuses (world before) (map_kind (has_references rows) (is_json rows)) (is_json rows)
    path (libraries_of rows) status Same old new old_err new_err)
    ⊎ ((named ≡ Some (codes "show", rows)) × (file_of rows ≡ Some path)
    × PrintsOrRefuses (world before) (kind.OfHost (of_host.Show (form_of (is_json rows))))
    (is_json rows) path [] status Same old new old_err new_err)
    ⊎ ((named ≡ Some (codes "check", rows)) × (host_of rows ≡ Some path)
    × PrintsCheck (world before) (is_unit rows) path (libraries_of rows) (is_strict rows)
    (is_json rows) status old new)
    ⊎ ((named ≡ Some (codes "list", rows))
    × PrintsLists (world before) (list_form (is_json rows)) (files_of rows) status old new))

-- `pslink 0.4.0`
abbrev pub version_line : List ℕ
version_line = codes "pslink 0.4.0" ++ 10 ∷ []

-- a known writer takes one text that ends with a line end
abbrev pub PrintsLines : Option (List ℕ) → Option (List ℕ) → Type 0
PrintsLines old new = (text : List ℕ) × EndsWithLine text × Appends old new text

-- by the line of the version, or by the help, whose words are clap's; each only where clap may
-- answer that it is asked for
abbrev pub PrintsText : Kinds → Option (List ℕ) → Option (List ℕ) → Type 0
PrintsText faults old new = (MayAskForVersion faults × Appends old new version_line)
    ⊎ (MayAskForHelp faults × PrintsLines old new)
