-- What a list has of one file that was read, and its status: functions of the file and of how it is
-- listed, the text but for the words for a file that is no code file.
use Rattle.std.specs.Prelude.{◌≡◌, ℕ, ◌||◌, not, if◌then◌else◌, Bool, true, false, List, []}
use Rattle.ps_arguments.specs.CommandLine.{Text}
use Rattle.ps_filetype.specs.CodeTypes.{is_code_type}
use Rattle.ps_filetype.specs.TypeWords.{IsTypeOf, type_words}
use Rattle.ps_filetype.specs.declared.file_type.FileType.{FileType}
use Rattle.ps_listing.specs.FileLists.{is_refused_as_listed, listed_as}
use Rattle.ps_listing.specs.declared.lists.ListForm.{ListForm}

-- the list of a file says that it is refused: it is no code file as it ought to be, or what is listed
-- of a code file is refused
abbrev pub is_refused_file : ListForm → List ℕ → Bool
is_refused_file how file = not (is_code_type file) || is_refused_as_listed how [] file

-- what the list of a file ends with
abbrev pub list_status : ListForm → List ℕ → ℕ
list_status how file = if is_refused_file how file then 1 else 0

-- the list of a file: of a code file, which has no phrase; or of another, whose phrase has the words
-- for a type that it may be of
abbrev pub IsListText : Bool → ListForm → Bool → Text → List ℕ → List ℕ → Type 0
IsListText true how first path file text = text ≡ listed_as how first path [] file
IsListText false how first path file text =
    (t : FileType) × IsTypeOf file t × (text ≡ listed_as how first path (type_words t) file)
