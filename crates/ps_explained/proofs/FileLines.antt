-- The lines of files, one after another.
use Rattle.std.proofs.Common.{◌≡◌, ◌+◌, ◌/◌, ◌%◌, ◌==◌, ◌<◌, ◌++◌, ◌∷◌, [], ℕ, Bool, Bor, List, None, Some, true, false, codes, drop, get_or, length, refl}
use Rattle.std.specs.Prelude.{if◌then◌else◌, Option}
use Rattle.std.specs.Str.{IsUtf8}
use Rattle.std.proofs.lemmas.List.{append_assoc, drop_more}
use Rattle.std.proofs.lemmas.List.Folds.{list_all-append}
use Rattle.ps_words.specs.declared.order.Order.TheVariants.{Little, Big}
use Rattle.ps_filetype.specs.CodeFiles.{code_file_word}
use Rattle.ps_filetype.specs.TypeWords.{image_words, line_end_words, type_words, volume_words}
use Rattle.ps_filetype.specs.declared.code_file.CodeFile.{CodeFile}
use Rattle.ps_filetype.specs.declared.code_file.CodeFile.TheVariants.{Host}
use Rattle.ps_filetype.specs.declared.file_type.FileType.{FileType}
use Rattle.ps_filetype.specs.declared.file_type.FileType.TheVariants as type
use Rattle.ps_filetype.specs.declared.images.Image.{Image}
use Rattle.ps_filetype.specs.declared.images.Image.TheVariants as image
use Rattle.ps_filetype.specs.declared.line_ends.LineEnds.{LineEnds}
use Rattle.ps_filetype.specs.declared.line_ends.LineEnds.TheVariants as ends
use Rattle.ps_filetype.specs.declared.release.Release.TheVariants as release
use Rattle.ps_resolve.specs.Sources.{contents}
use Rattle.ps_check_segments.specs.Paths.{path_of}
use Rattle.ps_explained.specs.FileLines.{AreFileLines, IsByteOrder, file_words, order_words, uneven_words}
use Rattle.ps_explained.specs.SlotLines.{AddsSlotLines, one_line}
use Rattle.ps_explained.specs.declared.orders.ByteOrder.{ByteOrder}
use Rattle.ps_explained.specs.declared.orders.ByteOrder.TheVariants as order
use Rattle.ps_explained.proofs.OneLine.{glyph, one_append, one_digits, one_name, one_path}
use Rattle.ps_explained.proofs.SlotLines.{adds_no_line}

module _ (paths all : List (List ℕ)) where
  -- the lines of these files are still to be added
  pub record FilesLeft (number : ℕ) (files : List (List ℕ)) (now : List ℕ) : Type 0 where
    pub rest : (more : List ℕ) → AreFileLines paths number files more
        → AreFileLines paths 0 all (now ++ more)

  pub line_more : (number : ℕ) (file : List ℕ) (files : List (List ℕ))
      (path before new : List ℕ) → path ≡ path_of paths number
      → (o : ByteOrder) × IsByteOrder file o
      × (new ≡ before ++ (file_words number path (length file) o ++ 10 ∷ []))
      → FilesLeft number (file ∷ files) before → FilesLeft (number + 1) files new
  line_more number file files path before new named added so_far = record {
    rest = λ more are.
        let line = file_words number (path_of paths number) (length file) added.0 ++ 10 ∷ [] in
        rw (added.2, named, append_assoc before line more)
        (so_far.rest (line ++ more) (added.0, more, added.1, are, refl));
  }

  -- the same of the library in this place among those that are lent
  pub line_more_at : (libs : List (Bor (List ℕ))) (i : ℕ) (none : Bor (List ℕ))
      (path before new : List ℕ) → path ≡ path_of paths (i + 1)
      → (o : ByteOrder) × IsByteOrder (get_or libs i none).now o
      × (new ≡ before ++ (file_words (i + 1) path (length (get_or libs i none).now) o ++ 10 ∷ []))
      → i < length libs → FilesLeft (i + 1) (contents (drop i libs)) before
      → FilesLeft ((i + 1) + 1) (contents (drop (i + 1) libs)) new
  line_more_at libs i none path before new named added within so_far =
      line_more (i + 1) (get_or libs i none).now (contents (drop (i + 1) libs)) path before new
      named added (rw (drop_more libs i none within) at so_far)

-- what is within a line
one_code_file : (c : CodeFile) → one_line (code_file_word c) ≡ true
one_code_file Host = refl
one_code_file other = refl

one_image : (i : Image) → one_line (image_words i) ≡ true
one_image image.Blocks = refl
one_image other = refl

one_volume : (name : Option (List ℕ)) → one_line (volume_words name) ≡ true
one_volume None = refl
one_volume (Some name) = simp (list_all-append, one_name name)

one_end : (how : LineEnds) → one_line (line_end_words how) ≡ true
one_end ends.Pairs = refl
one_end other = refl

one_type : (t : FileType) → one_line (type_words t) ≡ true
one_type (type.Code c) = one_code_file c
one_type (type.Header n) = simp (list_all-append, one_digits 10 n)
one_type (type.Later release.Three) = refl
one_type (type.Later release.Four) = refl
one_type (type.Disk form name) =
    one_append (image_words form) (volume_words name) (one_image form) (one_volume name)
one_type (type.OneByte b) = rw (glyph true (b / 16), glyph true (b % 16)) refl
one_type (type.Converted how) = one_end how
one_type other = refl

one_order : (o : ByteOrder) → one_line (order_words o) ≡ true
one_order (order.Known Little) = refl
one_order (order.Known Big) = refl
one_order order.NoKind = refl
one_order (order.NotOpened t) = one_type t

one_uneven : (size : ℕ) → one_line (uneven_words size) ≡ true
one_uneven size = by (size % 512 == 0)
  where
    by : (t : Bool) → one_line (if t then [] else codes "no multiple of 512, ") ≡ true
    by true = refl
    by false = refl

one_file : (number : ℕ) (path : List ℕ) (size : ℕ) (o : ByteOrder) → IsUtf8 path
    → one_line (file_words number path size o) ≡ true
one_file number path size o text = simp (
  list_all-append,
  one_path path text,
  one_digits 10 number,
  one_digits 10 size,
  one_uneven size,
  one_order o,
)

-- the line of a file is no segment's
pub adds_file : (number : ℕ) (path : List ℕ) (size : ℕ) (o : ByteOrder) (old new : List ℕ)
    → IsUtf8 path → new ≡ old ++ (file_words number path size o ++ 10 ∷ [])
    → AddsSlotLines old [] new
adds_file number path size o old new text is =
    adds_no_line old (file_words number path size o) new (one_file number path size o text) refl is
