-- What a file is for, with its byte order, in a line that a program compares.
-- Source: this project's profile, over the segment dictionary of UCSD Pascal II.0.
use Rattle.std.specs.Prelude.{ℕ, if◌then◌else◌, List, ◌++◌, codes, Option, Some, None, Result, Ok, Err, option_map}
use Rattle.ps_words.specs.declared.order.Order.{Order}
use Rattle.ps_words.specs.declared.order.Order.TheVariants.{Little, Big}
use Rattle.ps_words.specs.declared.fault.Reason.{Reason}
use Rattle.ps_codefile.specs.Dictionary.{OpenedFile}
use Rattle.ps_codefile.specs.Opened.{opened}
use Rattle.ps_filetype.specs.CodeFiles.{code_file, code_file_word}
use Rattle.ps_filetype.specs.CodeTypes.{is_code_type}
use Rattle.ps_texts.specs.declared.code_type.CodeType.{CodeType}

-- what a file that was opened, or was not, is for, and the order in which it was
abbrev pub code_type_in : Result OpenedFile Reason → Option CodeType
code_type_in (Ok f) =
    option_map (λ purpose. record { purpose = purpose; order = f.order }) (code_file f.order f.file)
code_type_in (Err why) = None

-- what a file is for, and its byte order; none of one that is no code file as it ought to be
abbrev pub code_type : List ℕ → Option CodeType
code_type file = if is_code_type file then code_type_in (opened file) else None

-- the word for a byte order
abbrev pub order_word : Order → List ℕ
order_word Little = codes "little"
order_word Big = codes "big"

-- `library little`, or `other`
abbrev pub type_line : Option CodeType → List ℕ
type_line None = codes "other\n"
type_line (Some t) =
    code_file_word t.purpose ++ codes " " ++ order_word t.order ++ codes "\n"
