-- What a report says of each file: its number, its path, its length, and its byte order or what it
-- is.
use Rattle.std.specs.Prelude.{◌≡◌, ℕ, ◌+◌, ◌%◌, ◌==◌, if◌then◌else◌, List, [], ◌∷◌, ◌++◌, Ok, Err, length, true, false, codes, decimal}
use Rattle.ps_words.specs.declared.order.Order.TheVariants.{Little, Big}
use Rattle.ps_words.specs.declared.fault.Reason.{Reason}
use Rattle.ps_words.specs.declared.fault.Reason.TheVariants.{NoHost}
use Rattle.ps_codefile.specs.Dictionary.{OpenedFile, opened_alone}
use Rattle.ps_filetype.specs.Shown.{shown_path}
use Rattle.ps_filetype.specs.CodeTypes.{is_code_type}
use Rattle.ps_filetype.specs.TypeWords.{IsTypeOf, type_words}
use Rattle.ps_check_segments.specs.Paths.{path_of}
use Rattle.ps_explained.specs.declared.orders.ByteOrder.{ByteOrder}
use Rattle.ps_explained.specs.declared.orders.ByteOrder.TheVariants as order

-- what a file says of its byte order: this order; none, since all its kinds are 0, though it is a
-- code file as it ought to be; or none, since it cannot be opened and is none, but of such a type
abbrev pub IsByteOrder : List ℕ → ByteOrder → Type 0
IsByteOrder file (order.Known o) =
    (f : OpenedFile) × (opened_alone file ≡ Ok f) × (f.order ≡ o)
IsByteOrder file order.NoKind = (opened_alone file ≡ Err NoHost) × (is_code_type file ≡ true)
IsByteOrder file (order.NotOpened t) =
    (why : Reason) × (opened_alone file ≡ Err why) × (is_code_type file ≡ false)
    × IsTypeOf file t

-- in words
abbrev pub order_words : ByteOrder → List ℕ
order_words (order.Known Little) = codes "little-endian"
order_words (order.Known Big) = codes "big-endian"
order_words order.NoKind = codes "no byte order, since no segment has a kind"
order_words (order.NotOpened t) = type_words t

-- a length that is no multiple of a block
abbrev pub uneven_words : ℕ → List ℕ
uneven_words size = if size % 512 == 0 then [] else codes "no multiple of 512, "

-- `file 0 host.code: 1536 bytes, little-endian`
abbrev pub file_words : ℕ → List ℕ → ℕ → ByteOrder → List ℕ
file_words number path size o = codes "file " ++ (decimal number ++ (codes " "
    ++ (shown_path path ++ (codes ": " ++ (decimal size ++ (codes " bytes, "
    ++ (uneven_words size ++ order_words o)))))))

-- these are the lines of files, numbered from this on, each with what the file says of its byte
-- order
abbrev pub AreFileLines : List (List ℕ) → ℕ → List (List ℕ) → List ℕ → Type 0
AreFileLines paths number [] text = text ≡ []
AreFileLines paths number (file ∷ files) text =
    (o : ByteOrder) × (rest : List ℕ) × IsByteOrder file o
    × AreFileLines paths (number + 1) files rest
    × (text ≡ (file_words number (path_of paths number) (length file) o ++ 10 ∷ []) ++ rest)
