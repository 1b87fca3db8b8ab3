-- What a request stands for, by the command and the files that clap finds named in the arguments.
use Rattle.std.specs.Prelude.{◌≡◌, ◌≢◌, ◌⊎◌, ◌++◌, Bool, true, false, List, ℕ, [], ◌∷◌, Option, None, Some, codes, map, option_map, string_bytes, unwrap_or, ⊤}
use Rattle.std.specs.List.{list_any}
use Rattle.std.specs.Str.{bytes_eq}
use Rattle.clap.specs.Words.{IsAmong, Kinds, Row, Text, all_of, first_of}
use Rattle.clap.specs.declared.error.ErrorKind.TheVariants.{DisplayHelp, DisplayVersion}
use Rattle.ps_arguments.specs.CommandLine.{faults_in, named_in}
use Rattle.ps_arguments.specs.Outputs.{has_output, has_references, is_json, is_strict, is_unit, link_options, map_content, out_by}
use Rattle.ps_arguments.specs.declared.outputs.MapContent.{MapContent}
use Rattle.ps_arguments.specs.declared.outputs.MapContent.TheVariants as content
use Rattle.ps_arguments.specs.declared.outputs.OutBy.{OutBy}
use Rattle.ps_arguments.specs.declared.outputs.OutBy.TheVariants as named_by
use Rattle.ps_arguments.specs.declared.outputs.Outputs.{Outputs}
use Rattle.ps_arguments.specs.declared.request.Inputs.{Inputs}
use Rattle.ps_arguments.specs.declared.request.Link.{Link}
use Rattle.ps_arguments.specs.declared.request.Request.{Request}
use Rattle.ps_arguments.specs.declared.request.Request.TheVariants as request
use Rattle.ps_arguments.specs.declared.request.Task.{Task}
use Rattle.ps_arguments.specs.declared.request.Task.TheVariants as task

-- the file that is named as HOST, or as FILE
abbrev pub host_of : List Row → Option Text
host_of rows = first_of (codes "HOST") rows

abbrev pub file_of : List Row → Option Text
file_of rows = first_of (codes "FILE") rows

-- the libraries that are named, in their order
abbrev pub libraries_of : List Row → List Text
libraries_of rows = unwrap_or (all_of (codes "LIB") rows) []

-- the files that are named for a list, in their order
abbrev pub files_of : List Row → List Text
files_of rows = unwrap_or (all_of (codes "FILE") rows) []

-- the files that are named as HOST and as libraries
abbrev pub NamesInputs : {A : Type 0} → Inputs A → List Row → Type 0
NamesInputs inputs rows = (host_of rows ≡ Some inputs.host.now)
    × (map (λ path. path.now) inputs.libraries.items ≡ libraries_of rows)

-- the path is one of these, byte for byte
abbrev pub is_library : Text → List Text → Bool
is_library path libraries = list_any (λ library. bytes_eq library path) libraries

-- a path was found to lead to the file of none of these; `OneFile` says of two paths whether they were
-- found to lead to one file
abbrev pub LeadsToNone : (Text → Text → Bool → Type 0) → Text → List Text → Type 0
LeadsToNone OneFile path [] = ⊤
LeadsToNone OneFile path (other ∷ others) =
    OneFile path other false × LeadsToNone OneFile path others

-- a path is none of these, byte for byte, and was found to lead to the file of none of them
abbrev pub IsOther : (Text → Text → Bool → Type 0) → Text → List Text → Type 0
IsOther OneFile path paths = (is_library path paths ≡ false) × LeadsToNone OneFile path paths

-- the file of the map is none that the link reads or writes; there is one where the map is to have
-- what the link stores
abbrev pub IsApartFrom : (Text → Text → Bool → Type 0) → Option Text → MapContent → Text → Text
    → List Text → Type 0
IsApartFrom OneFile None what out host libraries = what ≡ content.Places
IsApartFrom OneFile (Some file) what out host libraries =
    IsOther OneFile file (out ∷ host ∷ []) × IsOther OneFile file libraries

-- a path was found to lead to the file of one of these
abbrev pub LeadsToSome : (Text → Text → Bool → Type 0) → Text → List Text → Type 0
LeadsToSome OneFile path [] = ⊥
LeadsToSome OneFile path (other ∷ others) =
    OneFile path other true ⊎ LeadsToSome OneFile path others

-- a path is one of these, byte for byte, or was found to lead to the file of one of them
abbrev pub IsSame : (Text → Text → Bool → Type 0) → Text → List Text → Type 0
IsSame OneFile path paths = (is_library path paths ≡ true) ⊎ LeadsToSome OneFile path paths

-- the file of the map is another file of the link; or there is none, and the map is to have what the
-- link stores
abbrev pub IsWrongMap : (Text → Text → Bool → Type 0) → Option Text → MapContent → Text → Text
    → List Text → Type 0
IsWrongMap OneFile None what out host libraries = what ≡ content.References
IsWrongMap OneFile (Some file) what out host libraries =
    IsSame OneFile file (out ∷ host ∷ []) ⊎ IsSame OneFile file libraries

-- OUT is not the host, or it is, where its option names it: by its place OUT may be the host
abbrev pub IsNoHost : (Text → Text → Bool → Type 0) → OutBy → Text → Text → Type 0
IsNoHost OneFile named_by.Option out host = IsOther OneFile out (host ∷ [])
IsNoHost OneFile named_by.Place out host = ⊤

abbrev pub IsHost : (Text → Text → Bool → Type 0) → OutBy → Text → Text → Type 0
IsHost OneFile named_by.Option out host = IsSame OneFile out (host ∷ [])
IsHost OneFile named_by.Place out host = ⊥

-- the file that a link writes, and its libraries: OUT is named by its option, or else it is the
-- first of the files that are named after HOST, and no library
abbrev pub out_among : Option Text → List Text → Option (Text × List Text)
out_among (Some out) files = Some (out, files)
out_among None [] = None
out_among None (out ∷ files) = Some (out, files)

abbrev pub out_and_libraries : List Row → Option (Text × List Text)
out_and_libraries rows = out_among (first_of (codes "OUT") rows) (libraries_of rows)

-- the file to which the map of a link is written too
abbrev pub map_file : List Row → Option Text
map_file rows = file_of rows

-- what a link writes beside OUT, and what it prints, is as the arguments ask for it
pub record NamesOutputs (outputs : Outputs) (rows : List Row) : Type 0 where
  pub map_file : option_map (λ path. path.now) outputs.map ≡ map_file rows
  pub options : outputs.options ≡ link_options rows

-- a link of the files that are named for it; it writes no file that is a library of it, nor its host
-- where the option names OUT, and its map to no file of it
pub record NamesLink {A : Type 0} (OneFile : Text → Text → Bool → Type 0) (link : Link A)
    (rows : List Row) : Type 0
  where
    pub host : host_of rows ≡ Some link.inputs.host.now
    pub files : out_and_libraries rows
        ≡ Some (link.outputs.out.now, map (λ path. path.now) link.inputs.libraries.items)
    pub outputs : NamesOutputs link.outputs rows
    pub no_library : IsOther OneFile link.outputs.out.now
        (map (λ path. path.now) link.inputs.libraries.items)
    pub no_host : IsNoHost OneFile (out_by (has_output rows)) link.outputs.out.now
        link.inputs.host.now
    pub apart : IsApartFrom OneFile (map_file rows) (map_content (has_references rows))
        link.outputs.out.now link.inputs.host.now
        (map (λ path. path.now) link.inputs.libraries.items)

-- the command that is named, which is no link, with the files that are named for it; a check of units
-- is not strict
abbrev pub IsOtherCommand : {A : Type 0} → Task A → Option (Text × List Row) → Type 0
IsOtherCommand (task.Link link) named = ⊥
IsOtherCommand (task.Map inputs references json) named =
    (rows : List Row) × (named ≡ Some (codes "map", rows)) × NamesInputs inputs rows
    × (references ≡ has_references rows) × (json ≡ is_json rows)
IsOtherCommand (task.Show file json) named =
    (rows : List Row) × (named ≡ Some (codes "show", rows))
    × (file_of rows ≡ Some file.now) × (json ≡ is_json rows)
IsOtherCommand (task.Check inputs strict unit json) named =
    (rows : List Row) × (named ≡ Some (codes "check", rows)) × NamesInputs inputs rows
    × (strict ≡ is_strict rows) × (unit ≡ is_unit rows) × (json ≡ is_json rows)
    × (unit ≡ true → strict ≡ false)
IsOtherCommand (task.List files json) named =
    (rows : List Row) × (named ≡ Some (codes "list", rows))
    × (map (λ path. path.now) files.items ≡ files_of rows) × (json ≡ is_json rows)

-- the command that is named, with the files that are named for it
abbrev pub IsNamedCommand : {A : Type 0} → (Text → Text → Bool → Type 0) → Task A
    → Option (Text × List Row) → Type 0
IsNamedCommand OneFile (task.Link link) named =
    (rows : List Row) × (named ≡ Some (codes "link", rows)) × NamesLink OneFile link rows
IsNamedCommand OneFile t named = IsOtherCommand t named

-- the help or the version, or the command that is named
abbrev pub IsAsked : {A : Type 0} → (Text → Text → Bool → Type 0) → Request A
    → Option (Text × List Row) → Type 0
IsAsked OneFile (request.Help text) named = ⊤
IsAsked OneFile request.Version named = ⊤
IsAsked OneFile (request.Task t) named = IsNamedCommand OneFile t named

-- a command, and not the help or the version, which is the one that is named
abbrev pub IsTask : {A : Type 0} → (Text → Text → Bool → Type 0) → Request A
    → Option (Text × List Row) → Type 0
IsTask OneFile (request.Task t) named = IsNamedCommand OneFile t named
IsTask OneFile _ named = ⊥

-- a text ends with a line end
abbrev pub EndsWithLine : List ℕ → Type 0
EndsWithLine text = (words : List ℕ) × (text ≡ words ++ 10 ∷ [])

-- clap may answer that the help is asked for, or the version
abbrev pub MayAskForHelp : Kinds → Type 0
MayAskForHelp faults = IsAmong DisplayHelp faults

abbrev pub MayAskForVersion : Kinds → Type 0
MayAskForVersion faults = IsAmong DisplayVersion faults

-- the help or the version only where clap may answer that it is asked for, and a command only where
-- clap finds no fault
abbrev pub Answers : {A : Type 0} → Request A → Kinds → Type 0
Answers (request.Help text) faults = MayAskForHelp faults × EndsWithLine (string_bytes text)
Answers request.Version faults = MayAskForVersion faults
Answers (request.Task t) faults = faults ≡ []

-- why a link is wrong usage: no HOST is named, which clap does not accept, or no OUT; or OUT is a
-- library of the link too, or its host, where the option names OUT; or so of the file of its map
abbrev pub IsWrongLink : (Text → Text → Bool → Type 0) → List Row → Type 0
IsWrongLink OneFile rows = (host_of rows ≡ None) ⊎ (out_and_libraries rows ≡ None)
    ⊎ ((host : Text) × (out : Text) × (libraries : List Text) × (host_of rows ≡ Some host)
    × (out_and_libraries rows ≡ Some (out, libraries)) × (IsSame OneFile out libraries
    ⊎ IsHost OneFile (out_by (has_output rows)) out host
    ⊎ IsWrongMap OneFile (map_file rows) (map_content (has_references rows)) out host libraries))

-- why a check is wrong usage: no HOST is named, or it is a check of units that is to be strict
abbrev pub IsWrongCheck : List Row → Type 0
IsWrongCheck rows =
    (host_of rows ≡ None) ⊎ ((is_strict rows ≡ true) × (is_unit rows ≡ true))

-- a name is none of the five commands
abbrev pub IsNoCommand : Text → Type 0
IsNoCommand name = (name ≢ codes "link") × (name ≢ codes "map") × (name ≢ codes "show")
    × (name ≢ codes "check") × (name ≢ codes "list")

-- why what is named is wrong usage, though clap finds no fault in it
abbrev pub IsWrongCommand : (Text → Text → Bool → Type 0) → Text → List Row → Type 0
IsWrongCommand OneFile name rows = ((name ≡ codes "link") × IsWrongLink OneFile rows)
    ⊎ ((name ≡ codes "map") × (host_of rows ≡ None))
    ⊎ ((name ≡ codes "show") × (file_of rows ≡ None))
    ⊎ ((name ≡ codes "check") × IsWrongCheck rows) ⊎ IsNoCommand name

abbrev pub IsWrongNamed : (Text → Text → Bool → Type 0) → Option (Text × List Row) → Type 0
IsWrongNamed OneFile None = ⊤
IsWrongNamed OneFile (Some (name, rows)) = IsWrongCommand OneFile name rows

-- arguments are wrong usage: clap finds a fault in them, or they name a command that is not accepted
abbrev pub IsWrongUsage : (Text → Text → Bool → Type 0) → List Text → Type 0
IsWrongUsage OneFile args = (faults_in args ≢ []) ⊎ IsWrongNamed OneFile (named_in args)

-- no link is named
abbrev pub NamesNoLink : Option (Text × List Row) → Type 0
NamesNoLink named = (rows : List Row) → named ≢ Some (codes "link", rows)
