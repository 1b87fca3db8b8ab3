-- The phrase for what a file is that is no code file as it ought to be.
use Rattle.std.specs.Prelude.{◌≡◌, ℕ, ◌==◌, List, length, false}
use Rattle.ps_filetype.specs.CodeTypes.{is_code_type}
use Rattle.ps_filetype.specs.TypeWords.{IsTypeOf, type_words}
use Rattle.ps_filetype.specs.declared.file_type.FileType.{FileType}

-- The phrase for a file: it is empty exactly where the file is a code file as it ought to be, and
-- else the words for a type that the file may be of.
pub record IsPhrase (file phrase : List ℕ) : Type 0 where
  pub empty : (length phrase == 0) ≡ is_code_type file
  pub words : is_code_type file ≡ false
      → (t : FileType) × IsTypeOf file t × (phrase ≡ type_words t)
