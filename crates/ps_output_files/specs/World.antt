-- The files of a command, as contracts see them: what paths gave and where they lead, and which files were
-- created. No contract says what a file of the system holds, so of those nothing is known. This project's
-- own.
use Rattle.std.specs.Prelude.{◌≡◌, ℕ, Bool, List, Option, None, IfSome, ⊤}
use Rattle.ps_output_files.specs.Log.{Log}

-- what is known of the files, at one time
pub record World : Type 1 where
  -- of a path, and of what the file that was opened there has to give, if that is known
  pub opened : List ℕ → Option (List ℕ) → Type 0
  -- of a path at which nothing could be opened
  pub unopened : List ℕ → Type 0
  -- of a path at which no file could be created
  pub uncreated : List ℕ → Type 0
  -- of a path, and of whether it was found to lead to standard output
  pub leads : List ℕ → Bool → Type 0
  -- of two paths, and of whether they were found to lead to one file
  pub one_file : List ℕ → List ℕ → Bool → Type 0
  -- the files that were created
  pub log : Log

-- nothing is known of the files of the system
abbrev pub unknown_world : World
unknown_world = record {
  opened = λ path left. ⊤;
  unopened = λ path. ⊤;
  uncreated = λ path. ⊤;
  leads = λ path found. ⊤;
  one_file = λ path other found. ⊤;
  log = None;
}

-- the bytes are all that the file gave which was opened at the path
abbrev pub Reads : World → List ℕ → List ℕ → Type 0
Reads world path bytes =
    (left : Option (List ℕ)) × world.opened path left × IfSome left (λ all. bytes ≡ all)
