-- What a file is, in words. Which type a file that is no code file has, no definition says.
use Rattle.std.specs.Prelude.{◌≡◌, ℕ, ◌/◌, ◌%◌, Bool, true, false, List, [], ◌∷◌, ◌++◌, Option, Some, None, codes, decimal}
use Rattle.std.specs.Fmt.{digit_glyph}
use Rattle.ps_filetype.specs.CodeFiles.{code_file_word}
use Rattle.ps_filetype.specs.CodeTypes.{is_code_type}
use Rattle.ps_filetype.specs.Shown.{shown_name}
use Rattle.ps_filetype.specs.declared.file_type.FileType.{FileType}
use Rattle.ps_filetype.specs.declared.file_type.FileType.TheVariants as type
use Rattle.ps_filetype.specs.declared.images.Image.{Image}
use Rattle.ps_filetype.specs.declared.images.Image.TheVariants as image
use Rattle.ps_filetype.specs.declared.line_ends.LineEnds.{LineEnds}
use Rattle.ps_filetype.specs.declared.line_ends.LineEnds.TheVariants as ends
use Rattle.ps_filetype.specs.declared.odd_names.Oddity.{Oddity}
use Rattle.ps_filetype.specs.declared.odd_names.Oddity.TheVariants as odd
use Rattle.ps_filetype.specs.declared.release.Release.TheVariants as release

-- it is a code file as it ought to be
abbrev pub is_code : FileType → Bool
is_code (type.Code code_file) = true
is_code t = false

-- a file may be of this type: it is a code file exactly where the type is
abbrev pub IsTypeOf : List ℕ → FileType → Type 0
IsTypeOf file t = is_code t ≡ is_code_type file

-- the form of a disk image
abbrev pub image_words : Image → List ℕ
image_words image.Blocks = codes "a disk image"
image_words image.DosOrder = codes "a disk image with its sectors in the order of DOS 3.3"
image_words image.TwoImg = codes "a disk image behind a header of the form 2IMG"
image_words image.CpmOrder =
    codes "a disk image with its sectors in the order of CP/M, or as they lie on the disk"
image_words image.OtherOrder =
    codes "a disk image with its sectors in another order than its blocks"
image_words image.TwoImgDosOrder = codes "a disk image with its sectors in the order of DOS 3.3 "
    ++ codes "behind a header of the form 2IMG"
image_words image.DiskCopy = codes "a disk image behind a header of DiskCopy 4.2"
image_words image.Nibbles = codes "a disk image of nibbles"
image_words image.ImageDisk = codes "a disk image of the form IMD"

-- the name of its volume, where it has one
abbrev pub volume_words : Option (List ℕ) → List ℕ
volume_words None = []
volume_words (Some name) = codes ", of the volume " ++ shown_name name

-- how line ends were converted
abbrev pub line_end_words : LineEnds → List ℕ
line_end_words ends.Pairs = codes "each 0A in it comes after a 0D"
line_end_words ends.Returns = codes "it has bytes 0D and none 0A"
line_end_words ends.Feeds = codes "it has bytes 0A and none 0D"

-- how a name is odd
abbrev pub oddity_words : Oddity → List ℕ
oddity_words odd.HighBytes = codes "has bytes above 127"
oddity_words odd.ControlBytes = codes "has control bytes"
oddity_words odd.Zeros = codes "is padded with zeros where blanks are expected"
oddity_words odd.SmallLetters = codes "has small letters, and other names have capitals"

-- the words for a type that has no part
abbrev pub plain_words : FileType → List ℕ
plain_words type.Swapped = codes "a code file whose bytes are exchanged in pairs"
plain_words type.MacBinary = codes "a code file behind the 128 bytes of a MacBinary header"
plain_words type.Gzip = codes "a gzip file"
plain_words type.Bzip2 = codes "a bzip2 file"
plain_words type.Xz = codes "an xz file"
plain_words type.Zlib = codes "a file of zlib data"
plain_words type.Zip = codes "a zip file"
plain_words type.Elf = codes "an ELF file, of another system"
plain_words type.AppleSingle = codes "an AppleSingle file"
plain_words type.AppleDouble = codes "an AppleDouble file, which has no byte of the code file"
plain_words (type.Later release.Three) =
    codes "a code file of segments of version 3, which is not supported"
plain_words (type.Later release.Four) =
    codes "a code file of release IV.0, which is not supported"
plain_words type.SystemText = codes "a text of a p-System"
plain_words type.Text = codes "a text"
plain_words type.Encoded = codes "a text that a file was turned into, as a hexadecimal dump"
plain_words type.WideText = codes "a text in UTF-16"
plain_words type.Empty = codes "an empty file"
plain_words t = codes "no code file of a known form"

-- a type, as `a gzip file`
abbrev pub type_words : FileType → List ℕ
type_words (type.Code code_file) = code_file_word code_file
type_words (type.Header bytes) = codes "a code file behind a header of "
    ++ (decimal bytes ++ codes " bytes")
type_words (type.Disk form name) = image_words form ++ volume_words name
type_words (type.OneByte byte) = codes "a file of the byte "
    ++ (digit_glyph true (byte / 16) ∷ (digit_glyph true (byte % 16) ∷ codes " alone"))
type_words (type.Converted how) = codes "a file whose line ends were converted: "
    ++ line_end_words how
type_words t = plain_words t
