-- The phrase for what a file is.
use Rattle.std.proofs.Common.{◌≡◌, ◌∙◌, ℕ, List, [], true, sym}
use Rattle.ps_filetype.specs.TypeWords.{IsTypeOf, is_code}
use Rattle.ps_filetype.specs.declared.file_type.FileType.{FileType}
use Rattle.ps_listing.specs.Phrases.{IsPhrase}

-- a code file as it ought to be has none
pub code_phrase : (file phrase : List ℕ) (t : FileType) → IsTypeOf file t → is_code t ≡ true
    → phrase ≡ [] → IsPhrase file phrase
code_phrase file phrase t typed code none = record {
  empty = rw none (sym code ∙ typed);
  words = λ other. let both = sym code ∙ typed ∙ other in cc;
}
