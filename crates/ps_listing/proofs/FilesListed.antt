-- The lists of files, one after another.
use Rattle.std.proofs.Common.{◌≡◌, ◌≤◌, ◌<◌, ◌⊎◌, ◌+◌, ◌++◌, ◌∷◌, [], ℕ, Bool, Bor, List, get_or, inl, inr, drop, length, refl, arith}
use Rattle.std.specs.Prelude.{codes, min}
use Rattle.std.proofs.lemmas.Bool.{cases_lt}
use Rattle.std.proofs.lemmas.List.{append_assoc, drop_all, drop_more}
use Rattle.ps_resolve.specs.Sources.{contents}
use Rattle.ps_writing.specs.JsonText.{line_end}
use Rattle.ps_codefile.specs.Opened.{opened}
use Rattle.ps_writing.specs.Rows.{by_form}
use Rattle.ps_writing.specs.declared.rows.Form.{Form}
use Rattle.ps_writing.specs.declared.rows.Form.TheVariants.{Json, Lines}
use Rattle.ps_listing.specs.FileLists.{AreListed, Listed, listed, listed_units}
use Rattle.ps_listing.specs.Listed.{segments_found, values_of}
use Rattle.ps_listing.specs.ListText.{file_in, listed_in, segments_in}
use Rattle.ps_listing.specs.Phrases.{IsPhrase}
use Rattle.ps_listing.specs.LoneText.{listed_with_units, lone_items, lone_text}
use Rattle.ps_listing.specs.declared.listed_file.FileValues.{FileValues}
use Rattle.ps_listing.specs.declared.lone.LoneUnit.{LoneUnit}
use Rattle.ps_listing.specs.declared.segments.ListedSegment.{ListedSegment}
use Rattle.ps_listing.specs.declared.lists.ListForm.{ListForm}
use Rattle.ps_listing.specs.declared.lists.ListForm.TheVariants as form

module _ (how : ListForm) (all_paths all_files : List (List ℕ)) where
  -- these files are still to be listed
  pub record FilesLeft (paths files : List (List ℕ)) (now : List Listed) : Type 0 where
    pub rest : (more : List Listed) → AreListed how paths files more
        → AreListed how all_paths all_files (now ++ more)

  pub listed_more : (path file : List ℕ) (paths files : List (List ℕ)) (one : Listed)
      (before : List Listed) → one.how ≡ how → one.path ≡ path → one.file ≡ file
      → IsPhrase file one.phrase → FilesLeft (path ∷ paths) (file ∷ files) before
      → FilesLeft paths files (before ++ one ∷ [])
  listed_more path file paths files one before of_how at_path of_file said so_far = record {
    rest = λ more are. rw append_assoc
        (so_far.rest (one ∷ more)
        (one.phrase, more, said, are, rw (of_how, at_path, of_file) refl));
  }

  -- one file more is listed: the one at this index among those that are lent
  pub listed_more_at : (paths libs : List (Bor (List ℕ))) (i : ℕ) (none : Bor (List ℕ))
      (one : Listed) (before : List Listed) → one.how ≡ how
      → one.path ≡ (get_or paths i none).now → one.file ≡ (get_or libs i none).now
      → IsPhrase (get_or libs i none).now one.phrase
      → i < length paths → i < length libs
      → FilesLeft (contents (drop i paths)) (contents (drop i libs)) before
      → FilesLeft (contents (drop (i + 1) paths)) (contents (drop (i + 1) libs))
      (before ++ one ∷ [])
  listed_more_at paths libs i none one before of_how at_path of_file said in_paths in_libs so_far =
      listed_more (get_or paths i none).now (get_or libs i none).now
      (contents (drop (i + 1) paths)) (contents (drop (i + 1) libs)) one before of_how at_path
      of_file said
      (rw (drop_more paths i none in_paths, drop_more libs i none in_libs) at so_far)

-- one of two lists ends where the shorter one does
pub one_ends : {X Y : Type 0} (xs : List X) (ys : List Y) (n : ℕ)
    → min (length xs) (length ys) ≤ n → (drop n xs ≡ []) ⊎ (drop n ys ≡ [])
one_ends xs ys n short = elim (cases_lt n (length xs)) [
  | inl gt ↦ inr (drop_all n ys (omega arith))
  | inr le ↦ inl (drop_all n xs le)
]

-- no file is listed where no path or no file is left
pub none_listed : (how : ListForm) (paths files : List (List ℕ)) → (paths ≡ []) ⊎ (files ≡ [])
    → AreListed how paths files []
none_listed how [] files e = refl
none_listed how (path ∷ paths) [] e = refl
none_listed how (path ∷ paths) (file ∷ files) (inl e) = cc
none_listed how (path ∷ paths) (file ∷ files) (inr e) = cc

-- what is listed of a file whose units are listed
pub units_listed : (first : Bool) (l : Listed) → l.how ≡ form.Units
    → listed_in Lines l.path l.phrase l.file ++ lone_text l.path (listed_units l.how l.file)
    ≡ listed first l
units_listed first l h = rw h refl

-- the item of a file with its units in a document
pub item_with_units : (first : Bool) (l : Listed) → l.how ≡ form.JsonUnits
    → line_end first ++ listed_with_units l.path l.phrase l.file (listed_units l.how l.file)
    ≡ listed first l
item_with_units first l h = rw h refl

-- what is added of these values and segments is what is listed of the file that has them
pub listed_is : (how : Form) (l : Listed) (path phrase : List ℕ) (v : FileValues)
    (ss : List ListedSegment) → path ≡ l.path → phrase ≡ l.phrase
    → v ≡ values_of (length l.file) (opened l.file)
    → ss ≡ segments_found l.phrase (opened l.file)
    → file_in how path phrase v ++ segments_in how path ss
    ++ by_form how [] (codes "\n]}") ≡ listed_in how l.path l.phrase l.file
unfolding listed_in
listed_is how l path phrase v ss at_path said values has = rw (at_path, said, values, has) refl

pub listed_with : (l : Listed) (path phrase : List ℕ) (v : FileValues) (ss : List ListedSegment)
    (units : List LoneUnit) → path ≡ l.path → phrase ≡ l.phrase
    → v ≡ values_of (length l.file) (opened l.file)
    → ss ≡ segments_found l.phrase (opened l.file)
    → units ≡ listed_units l.how l.file
    → file_in Json path phrase v ++ segments_in Json path ss
    ++ codes "\n],\"units\":[" ++ lone_items units ++ codes "\n]}"
    ≡ listed_with_units l.path l.phrase l.file (listed_units l.how l.file)
unfolding listed_with_units
listed_with l path phrase v ss units at_path said values has alone =
    rw (at_path, said, values, has, alone) refl
