-- The lists of files, one after another.
use Rattle.std.proofs.Common.{◌≡◌, ◌∙◌, ◌==◌, ◌||◌, ◌++◌, not, ℕ, Bool, Err, IfOk, List, [], ◌∷◌, Ok, OnOk, Option, Result, ap, arith, false, inl, inr, length, refl, true}
use Rattle.std.specs.Prelude.{if◌then◌else◌, max}
use Rattle.std.specs.Io.KnownBytes.{Appends}
use Rattle.std.proofs.lemmas.Bool.Decides.{nat_tests}
use Rattle.ps_arguments.specs.CommandLine.{Text}
use Rattle.ps_filetype.specs.CodeTypes.{is_code_type}
use Rattle.ps_listing.specs.FileLists.{Listed, is_refused_as_listed, is_refused_in, listed, listed_as}
use Rattle.ps_listing.specs.Listed.{is_refused}
use Rattle.ps_listing.specs.LoneText.{has_no_sound, units_in_entries}
use Rattle.ps_listing.specs.Phrases.{IsPhrase}
use Rattle.ps_listing.specs.declared.lists.ListForm.{ListForm}
use Rattle.ps_listing.specs.declared.lists.ListForm.TheVariants as form
use Rattle.ps_writing.proofs.Prefixes.{appends_twice}
use Rattle.ps_command.specs.Failures.{TakesMore}
use Rattle.ps_command.specs.Lists.{IsListText, list_status}
use Rattle.ps_command.specs.ReadFaults.{IsNotRead}
use Rattle.ps_output_files.specs.World.{Reads, World}
use Rattle.ps_command.specs.Printed.{IsListed, PrintsDocument, PrintsFiles, PrintsUnread, document_end, document_start}
use Rattle.ps_command.specs.Statuses.{ended_status}
use Rattle.ps_command.specs.declared.ended.Ended.{Ended}
use Rattle.ps_command.specs.declared.ended.Ended.TheVariants as ended

-- some bytes were taken, and then some more
pub took_twice : (a b c : Option (List ℕ)) → TakesMore a b → TakesMore b c → TakesMore a c
took_twice a b c first more =
    (first.0 ++ more.0, appends_twice a b c first.0 more.0 first.1 more.1)

-- a phrase of no byte is none
no_phrase : (phrase : List ℕ) → (length phrase == 0) ≡ true → phrase ≡ []
no_phrase [] empty = refl
no_phrase (byte ∷ phrase) empty = absurd (grind (arith, nat_tests))

-- what has a phrase is refused, and so is what has no unit since it is no code file
refused_by_phrase : (phrase file : List ℕ) → (length phrase == 0) ≡ false
    → is_refused phrase file ≡ true
unfolding is_refused
refused_by_phrase phrase file some = rw some refl

no_unit_of : (file : List ℕ) → is_code_type file ≡ false
    → has_no_sound (if is_code_type file then units_in_entries file else []) ≡ true
no_unit_of file other = rw other refl

other_refused : (how : ListForm) (phrase file : List ℕ) → (length phrase == 0) ≡ false
    → is_code_type file ≡ false → is_refused_as_listed how phrase file ≡ true
other_refused form.Lines phrase file some other = refused_by_phrase phrase file some
other_refused form.Json phrase file some other = refused_by_phrase phrase file some
other_refused form.Units phrase file some other = no_unit_of file other
other_refused form.JsonUnits phrase file some other = no_unit_of file other

-- with its phrase a file is refused exactly as without, if it is a code file, and else in any case
refused_as : (how : ListForm) (phrase file : List ℕ) (code : Bool) → is_code_type file ≡ code
    → (length phrase == 0) ≡ code
    → is_refused_as_listed how phrase file ≡ (not code || is_refused_as_listed how [] file)
refused_as how phrase file true is empty =
    ap (λ (p : List ℕ). is_refused_as_listed how p file) (no_phrase phrase empty)
refused_as how phrase file false is empty = other_refused how phrase file empty is

status_of_list : (how : ListForm) (phrase file : List ℕ) → IsPhrase file phrase
    → (if is_refused_as_listed how phrase file then 1 else 0) ≡ list_status how file
status_of_list how phrase file is =
    ap (λ (t : Bool). if t then 1 else 0)
    (refused_as how phrase file (is_code_type file) refl is.empty)

text_of_list : (how : ListForm) (first : Bool) (path : Text) (phrase file : List ℕ) (code : Bool)
    → is_code_type file ≡ code → IsPhrase file phrase
    → IsListText code how first path file (listed_as how first path phrase file)
text_of_list how first path phrase file true is said =
    ap (λ (p : List ℕ). listed_as how first path p file) (no_phrase phrase (said.empty ∙ is))
text_of_list how first path phrase file false is said =
    let words = said.words is in
    (words.0, words.1, ap (λ (p : List ℕ). listed_as how first path p file) words.2)

module _ (world : World) (how : ListForm)
    (first : Bool) (path : Text) where
  -- a file was read, and its list printed
  pub one_listed : {E : Type 0} (file : List ℕ) (l : Listed) (r : Result Ended E)
      (old new : Option (List ℕ)) → Reads world path file → l.how ≡ how → l.path ≡ path → l.file ≡ file
      → IsPhrase file l.phrase
      → IfOk r (λ e. ended_status e ≡ (if is_refused_in l then 1 else 0))
      → OnOk r (Appends old new (listed first l))
      → IfOk r (λ e. IsListed world how first path (ended_status e) old new)
  one_listed file l (Ok e) old new read how_is path_is file_is said ends prints =
      let status : ended_status e ≡ (if is_refused_as_listed how l.phrase file then 1 else 0) =
      rw (how_is, file_is) at ends in
      let text : Appends old new (listed_as how first path l.phrase file) =
      rw (how_is, path_is, file_is) at prints in inl (
        file,
        listed_as how first path l.phrase file,
        read,
        status ∙ status_of_list how l.phrase file said,
        text_of_list how first path l.phrase file (is_code_type file) refl said,
        text,
      )
  one_listed file l (Err e) old new read how_is path_is file_is said ends prints = tt

  -- a file was not read, and what there is of it printed
  pub one_unread : {E : Type 0} (r : Result Ended E) (old new : Option (List ℕ)) → IsNotRead world path
      → IfOk r (λ e. e ≡ ended.Unread) → OnOk r (PrintsUnread how first path old new)
      → IfOk r (λ e. IsListed world how first path (ended_status e) old new)
  one_unread (Ok e) old new unread is prints = inr (ap ended_status is, unread, prints)
  one_unread (Err e) old new unread is prints = tt

-- a document was printed
pub whole_document : (world : World) (how : ListForm) (all : List Text) (status : ℕ)
    (old started ended new : Option (List ℕ)) → Appends old started document_start
    → PrintsFiles world how true all status started ended → Appends ended new document_end
    → PrintsDocument world how all status old new
whole_document world how all status old started ended new start items rest =
    (started, ended, start, items, rest)

module _ (world : World) (how : ListForm)
    (all : List Text) (old : Option (List ℕ)) where
  -- the files before these have this status, and what is printed of those that are left is added to
  -- it
  pub record ListsLeft (is_first : Bool) (left : List Text) (status : ℕ)
      (now : Option (List ℕ)) : Type 0
    where
      pub rest : (more : ℕ) (new : Option (List ℕ))
          → PrintsFiles world how is_first left more now new
          → PrintsFiles world how true all (max status more) old new

  pub listed_more : (is_first : Bool) (path : Text) (left : List Text) (status first : ℕ)
      (before between : Option (List ℕ))
      → IsListed world how is_first path first before between
      → ListsLeft is_first (path ∷ left) status before
      → ListsLeft false left (max status first) between
  listed_more is_first path left status first before between listed so_far = record {
    rest = λ more new printed.
        let worst : max status (max first more) ≡ max (max status first) more = omega arith in
        rw worst at (so_far.rest (max first more) new
        (first, more, between, listed, printed, refl));
  }
