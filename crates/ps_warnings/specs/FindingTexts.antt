-- What a finding is, in words: half a sentence, which follows its place.
-- Source: this project's profile.
use Rattle.std.specs.Prelude.{ℕ, ◌/◌, ◌%◌, true, List, [], ◌∷◌, ◌++◌, codes, decimal}
use Rattle.std.specs.Fmt.{digit_glyph}
use Rattle.ps_filetype.specs.Shown.{shown_name, slot_digits}
use Rattle.ps_filetype.specs.TypeWords.{line_end_words, oddity_words, type_words}
use Rattle.ps_warnings.specs.declared.counting.Counting.{Counting}
use Rattle.ps_warnings.specs.declared.counting.Counting.TheVariants as count
use Rattle.ps_warnings.specs.declared.finding.CodeFinding.{CodeFinding}
use Rattle.ps_warnings.specs.declared.finding.CodeFinding.TheVariants as code
use Rattle.ps_warnings.specs.declared.finding.DictionaryFinding.{DictionaryFinding}
use Rattle.ps_warnings.specs.declared.finding.DictionaryFinding.TheVariants as dictionary
use Rattle.ps_warnings.specs.declared.finding.EntryFinding.{EntryFinding}
use Rattle.ps_warnings.specs.declared.finding.EntryFinding.TheVariants as entry
use Rattle.ps_warnings.specs.declared.finding.FileFinding.{FileFinding}
use Rattle.ps_warnings.specs.declared.finding.FileFinding.TheVariants as file
use Rattle.ps_warnings.specs.declared.finding.Finding.{Finding}
use Rattle.ps_warnings.specs.declared.finding.Finding.TheVariants as which
use Rattle.ps_warnings.specs.declared.finding.LinkFinding.{LinkFinding}
use Rattle.ps_warnings.specs.declared.finding.LinkFinding.TheVariants as link
use Rattle.ps_warnings.specs.declared.finding.NameFinding.{NameFinding}
use Rattle.ps_warnings.specs.declared.finding.NameFinding.TheVariants as name
use Rattle.ps_warnings.specs.declared.finding.OperandFinding.{OperandFinding}
use Rattle.ps_warnings.specs.declared.finding.OperandFinding.TheVariants as operand
use Rattle.ps_warnings.specs.declared.finding.ProcedureFinding.{ProcedureFinding}
use Rattle.ps_warnings.specs.declared.finding.ProcedureFinding.TheVariants as procedure
use Rattle.ps_warnings.specs.declared.finding.RecordFinding.{RecordFinding}
use Rattle.ps_warnings.specs.declared.finding.RecordFinding.TheVariants as rec

-- a byte in two hexadecimal digits
abbrev pub byte_digits : ℕ → List ℕ
byte_digits byte = digit_glyph true (byte / 16) ∷ digit_glyph true (byte % 16) ∷ []

-- a byte as `printf` of a shell takes it: a backslash and three octal digits
unfoldable pub octal_digits : ℕ → List ℕ
octal_digits byte = 92 ∷ (decimal (byte / 64) ++ (decimal (byte / 8 % 8)
    ++ decimal (byte % 8)))

-- 1. warnings, and what is harmless
unfoldable pub entry_text : EntryFinding → List ℕ
entry_text (entry.EmptySlot slot name kind) = codes "slot " ++ (slot_digits slot
    ++ (codes " has the name " ++ (shown_name name ++ (codes ", kind " ++ (decimal kind
    ++ codes " and no code: no segment is linked there")))))
entry_text (entry.Overlap other) = codes "its bytes in the file overlap those of slot "
    ++ slot_digits other

unfoldable pub record_text : RecordFinding → List ℕ
record_text (rec.PastPrivate place displacement words) = codes "the operand at byte "
    ++ (decimal place ++ (codes " is word " ++ (decimal displacement
    ++ (codes " of a variable that has " ++ decimal words))))
record_text (rec.PastPublic place name displacement value next) = codes "the operand at byte "
    ++ (decimal place ++ (codes " is word " ++ (decimal displacement ++ (codes " of "
    ++ (shown_name name ++ (codes " at base offset " ++ (decimal value
    ++ (codes ", and the end mark says that " ++ (decimal next ++ codes " is free")))))))))
record_text (rec.UnitDefinition name) = codes "the unit defines " ++ (shown_name name
    ++ codes ", which has no effect: only the host program defines variables")
record_text (rec.OwnDefinition name) = codes "the unit refers to " ++ (shown_name name
    ++ codes " and defines it itself: only the host program defines variables")
record_text (rec.LowMark next size) = codes "the end mark " ++ (decimal next
    ++ (codes " is below half the data size of " ++ (decimal size ++ codes " bytes")))
record_text (rec.HighDefinition name value next) = shown_name name
    ++ (codes " has base offset " ++ (decimal value ++ (codes ", and the end mark says that "
    ++ (decimal next ++ codes " is free"))))

unfoldable pub link_text : LinkFinding → List ℕ
link_text (link.TakenSlot slot name) = codes "it is added in slot " ++ (slot_digits slot
    ++ (codes ", which the host has for " ++ (shown_name name ++ (codes ": calls of "
    ++ (shown_name name ++ codes " go to it")))))
link_text (link.OtherSpelling name) = codes "another unit of the link is " ++ (shown_name name
    ++ codes ", nearly the same name")

-- 2. notes
unfoldable pub file_text : FileFinding → List ℕ
file_text (file.NoCodeFile file_type) = codes "it may be " ++ type_words file_type
file_text (file.Padded bytes) = codes "its last " ++ (decimal bytes
    ++ codes " bytes are 1A: it was padded, as by CP/M")
file_text (file.Doubled start end) = codes "bytes " ++ (decimal start ++ (codes " to "
    ++ (decimal end
    ++ codes " are there twice, one after the other: they may have been read twice")))
file_text (file.Converted ends) = line_end_words ends
    ++ codes ": its line ends may have been converted"
file_text file.SevenBits =
    codes "none of its bytes is above 7F: it may have been sent as 7 bits"

unfoldable pub dictionary_text : DictionaryFinding → List ℕ
dictionary_text (dictionary.DeadTail start end byte) = codes "bytes " ++ (decimal start
    ++ (codes " to " ++ (decimal end ++ (codes " of its dictionary are all " ++ (byte_digits byte
    ++ codes ": they may not have been read")))))
dictionary_text (dictionary.IntrinsicKind slot kind) = codes "slot " ++ (slot_digits slot
    ++ (codes " is of kind " ++ (decimal kind
    ++ codes ", an intrinsic unit of Apple Pascal or its data")))
dictionary_text dictionary.IntrinsicSet = codes "bytes 288 to 291 of its dictionary are not 0: "
    ++ codes "Apple Pascal keeps there which intrinsic units a program uses"
dictionary_text (dictionary.LeftOutWord place high low first second) =
    codes "the linked file has 0 for it at byte " ++ (decimal place
    ++ (codes ", and its own file has " ++ (byte_digits high ++ (byte_digits low
    ++ (codes ": a system of II.1 may not start it; set it by printf '"
    ++ (octal_digits first ++ (octal_digits second ++ (codes "' | dd of=LINKED bs=1 seek="
    ++ (decimal place ++ codes " conv=notrunc")))))))))

unfoldable pub name_text : NameFinding → List ℕ
name_text (name.OddName name oddity) = codes "the name " ++ (shown_name name ++ (codes " "
    ++ (oddity_words oddity ++ codes ": it may not be found")))

unfoldable pub code_text : CodeFinding → List ℕ
code_text (code.OneByte byte) = codes "each byte of its code is " ++ (byte_digits byte
    ++ codes ": it may never have been written")
code_text (code.DeadRun start end byte) = codes "bytes " ++ (decimal start ++ (codes " to "
    ++ (decimal end ++ (codes " of its code are all " ++ (byte_digits byte
    ++ codes ": they may not have been read")))))
code_text code.ZeroEnd = codes "its code ends with zeros, so it has no procedure and no segment "
    ++ codes "number: its end may be lost"
code_text (code.OtherNumber found slot) = codes "its code has segment number " ++ (decimal found
    ++ (codes ", and its slot is " ++ (decimal slot ++ codes ": the code may be another one")))
code_text (code.ExchangedNumber found slot) = codes "its code has segment number "
    ++ (decimal found ++ (codes ", and that of slot " ++ (decimal found ++ (codes " has "
    ++ (decimal slot ++ codes ": the two may be exchanged")))))
code_text (code.OtherInfo found number) = codes "its code has segment number " ++ (decimal found
    ++ (codes ", and bytes 256 to 287 of the dictionary have " ++ (decimal number
    ++ codes " for it: the code may be another one")))

unfoldable pub procedure_text : ProcedureFinding → List ℕ
procedure_text (procedure.OtherProcedure number found) = codes "the attribute table of procedure "
    ++ (decimal number ++ (codes " says that it is procedure " ++ (decimal found
    ++ codes ": the code may be damaged")))
procedure_text procedure.LostTables = codes "it does not end with a procedure dictionary: "
    ++ codes "the end of its code may be lost"
procedure_text (procedure.Misfit number) = codes "procedure " ++ (decimal number
    ++ (codes " may be damaged: its instructions do not fit together, "
    ++ codes "as those of the others do"))
procedure_text (procedure.OddData size) = codes "its data size of " ++ (decimal size
    ++ (codes " bytes is odd, and the program is entered or left before its code: "
    ++ codes "its table may be damaged"))

-- how references are counted
abbrev pub counting_words : Counting → List ℕ
counting_words count.ByteEarlier = codes "from one byte earlier"
counting_words count.ByteLater = codes "from one byte later"
counting_words count.FromProcedure = codes "from the start of the procedure"
counting_words count.InWords = codes "in words"
counting_words count.FromEnd = codes "back from the end of the code"
counting_words count.FromFile = codes "from block 0 of the file"

unfoldable pub operand_text : OperandFinding → List ℕ
operand_text (operand.ClearMark place) = codes "the operand at byte " ++ (decimal place
    ++ codes " may be damaged: its bit 7 is clear, and a compiler sets it")
operand_text (operand.NoReferences operands) = codes "it has no reference, and "
    ++ (decimal operands ++ (codes " operands of two bytes for variables of the program: "
    ++ codes "its references may be lost"))
operand_text (operand.ZeroMark name) = codes "its end mark is zeros, and a record of "
    ++ (shown_name name ++ codes " is behind it: records may be lost")
operand_text (operand.OtherCount references operands counting counted) = decimal counted
    ++ (codes " of its " ++ (decimal references
    ++ (codes " references lead to operands if they are counted " ++ (counting_words counting
    ++ (codes ", and " ++ (decimal operands ++ (codes " as pslink counts them: "
    ++ codes "its compiler may count otherwise; see WARNINGS in pslink(1)")))))))

-- 3. any finding
unfoldable pub finding_text : Finding → List ℕ
finding_text (which.Entry f) = entry_text f
finding_text (which.Record f) = record_text f
finding_text (which.Link f) = link_text f
finding_text (which.File f) = file_text f
finding_text (which.Dictionary f) = dictionary_text f
finding_text (which.Name f) = name_text f
finding_text (which.Code f) = code_text f
finding_text (which.Procedure f) = procedure_text f
finding_text (which.Operand f) = operand_text f
