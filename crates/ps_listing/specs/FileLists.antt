-- Several files, each by itself: which have a host program, and their lists one after another.
use Rattle.std.specs.Prelude.{◌≡◌, ◌==◌, ℕ, Bool, true, false, List, [], ◌∷◌, ◌++◌, codes, Option, Some, None, Result, Ok, Err}
use Rattle.std.specs.List.{enumerate_from, flat_map, list_any}
use Rattle.ps_words.specs.declared.fault.Reason.{Reason}
use Rattle.ps_codefile.specs.Dictionary.{OpenedFile}
use Rattle.ps_codefile.specs.Opened.{opened}
use Rattle.ps_filetype.specs.CodeFiles.{code_file}
use Rattle.ps_filetype.specs.declared.code_file.CodeFile.{CodeFile}
use Rattle.ps_filetype.specs.declared.code_file.CodeFile.TheVariants.{Host, Library, Linked, Mixed}
use Rattle.ps_writing.specs.JsonText.{line_end}
use Rattle.ps_writing.specs.declared.rows.Form.TheVariants.{Lines, Json}
use Rattle.ps_listing.specs.Listed.{is_refused, segments_found}
use Rattle.ps_listing.specs.ListText.{listed_in, unread_json_of}
use Rattle.ps_listing.specs.Phrases.{IsPhrase}
use Rattle.ps_listing.specs.LoneText.{has_no_sound, listed_with_units, lone_text, lone_units}
use Rattle.ps_listing.specs.declared.lone.LoneUnit.{LoneUnit}
use Rattle.ps_listing.specs.declared.segments.ListedSegment.{ListedSegment}
use Rattle.ps_listing.specs.declared.lists.ListForm.{ListForm}
use Rattle.ps_listing.specs.declared.lists.ListForm.TheVariants as form

-- a file that is for this has a host program
abbrev pub is_for_host : Option CodeFile → Bool
is_for_host (Some Host) = true
is_for_host (Some Library) = false
is_for_host (Some Linked) = false
is_for_host (Some Mixed) = false
is_for_host None = false

-- a file that was opened, or was not, has a host program
abbrev pub has_host_as : Result OpenedFile Reason → Bool
has_host_as (Ok f) = is_for_host (code_file f.order f.file)
has_host_as (Err why) = false

-- the list of a file says that it is a host
unfoldable pub has_host : List ℕ → Bool
has_host file = has_host_as (opened file)

-- some of these files has a host program
abbrev pub has_host_among : List (List ℕ) → Bool
has_host_among libs = list_any has_host libs

-- a file that is listed: how, its path, the phrase for what it is, and its bytes
pub record Listed : Type 0 where
  pub how : ListForm
  pub path : List ℕ
  pub phrase : List ℕ
  pub file : List ℕ

-- the units of a file by themselves, where they are listed
abbrev pub listed_units : ListForm → List ℕ → List LoneUnit
listed_units form.Lines file = []
listed_units form.Json file = []
listed_units form.Units file = lone_units file
listed_units form.JsonUnits file = lone_units file

-- what a file that is listed was opened as, and its segments, and its units where they are listed
pub record IsListing (how : ListForm) (phrase file : List ℕ) (read : Result OpenedFile Reason)
    (segments : List ListedSegment) (units : List LoneUnit) : Type 0 where
  pub opens : read ≡ opened file
  pub has : segments ≡ segments_found phrase (opened file)
  pub alone : units ≡ listed_units how file

-- what is listed of a file: its lines; in a document an item, the first or another; its lines and
-- those of its units; or an item that has its units
abbrev pub listed_as : ListForm → Bool → List ℕ → List ℕ → List ℕ → List ℕ
listed_as form.Lines first path phrase file = listed_in Lines path phrase file
listed_as form.Json first path phrase file = line_end first ++ listed_in Json path phrase file
listed_as form.Units first path phrase file =
    listed_in Lines path phrase file ++ lone_text path (lone_units file)
listed_as form.JsonUnits first path phrase file =
    line_end first ++ listed_with_units path phrase file (lone_units file)

abbrev pub listed : Bool → Listed → List ℕ
listed first l = listed_as l.how first l.path l.phrase l.file

-- the item of a file that could not be read, the first or another
abbrev pub unread : Bool → List ℕ → List ℕ
unread first path = line_end first ++ unread_json_of path

-- a file or a segment is refused, or, where its units are listed, one of these, or there is none
abbrev pub is_refused_as_listed : ListForm → List ℕ → List ℕ → Bool
is_refused_as_listed form.Lines phrase file = is_refused phrase file
is_refused_as_listed form.Json phrase file = is_refused phrase file
is_refused_as_listed form.Units phrase file = has_no_sound (lone_units file)
is_refused_as_listed form.JsonUnits phrase file = has_no_sound (lone_units file)

abbrev pub is_refused_in : Listed → Bool
is_refused_in l = is_refused_as_listed l.how l.phrase l.file

-- files, one after another
abbrev pub listed_all : List Listed → List ℕ
listed_all ls = flat_map (λ p. listed (p.0 == 0) p.1) (enumerate_from 0 ls)

-- the list of files
abbrev pub lists_in : ListForm → List Listed → List ℕ
lists_in form.Lines ls = listed_all ls
lists_in form.Units ls = listed_all ls
lists_in form.Json ls = codes "{\"files\":[" ++ listed_all ls ++ codes "\n]}\n"
lists_in form.JsonUnits ls = codes "{\"files\":[" ++ listed_all ls ++ codes "\n]}\n"

-- these are the files at these paths, one for one, each with a phrase for what it is
abbrev pub AreListed : ListForm → List (List ℕ) → List (List ℕ) → List Listed → Type 0
AreListed how [] files ls = ls ≡ []
AreListed how (path ∷ paths) [] ls = ls ≡ []
AreListed how (path ∷ paths) (file ∷ files) ls =
    (phrase : List ℕ) × (rest : List Listed) × IsPhrase file phrase
    × AreListed how paths files rest
    × (ls ≡ record { how = how; path = path; phrase = phrase; file = file } ∷ rest)

-- the text is the list of the files at these paths
abbrev pub IsList : ListForm → List (List ℕ) → List (List ℕ) → List ℕ → Type 0
IsList how paths files text = (ls : List Listed) × AreListed how paths files ls
    × (text ≡ lists_in how ls)
