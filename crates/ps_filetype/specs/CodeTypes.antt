-- Which files are code files of release II.0 as they ought to be: code files that are no file of a
-- later release, whose bytes are not exchanged in pairs, and that are not one byte throughout.
-- Source: this project's profile, over the segment dictionaries of UCSD Pascal II.0, III.0 and
-- IV.0.
use Rattle.std.specs.Prelude.{ℕ, ◌+◌, ◌-◌, ◌*◌, ◌/◌, ◌%◌, ◌==◌, ◌&&◌, ◌||◌, not, if◌then◌else◌, List, length, nat_le, nat_lt, slice_get, slice_index, take, Bool, true, false, Option, Some, None, Result, Ok, Err, is_some}
use Rattle.std.specs.List.{list_all, list_any, range_with_len}
use Rattle.std.specs.Option.{option_map_or}
use Rattle.std.specs.Result.{is_ok}
use Rattle.ps_words.specs.Words.{word_at}
use Rattle.ps_words.specs.declared.order.Order.{Order}
use Rattle.ps_words.specs.declared.order.Order.TheVariants.{Little, Big}
use Rattle.ps_words.specs.declared.fault.Reason.{Reason}
use Rattle.ps_codefile.specs.Dictionary.{OpenedFile, code_of, entry_at, is_filled, kind_needs_linking, name_at, slots}
use Rattle.ps_codefile.specs.Opened.{opened}
use Rattle.ps_filetype.specs.CodeFiles.{code_file, is_letter}
use Rattle.ps_filetype.specs.declared.code_file.CodeFile.{CodeFile}
use Rattle.ps_filetype.specs.declared.code_file.CodeFile.TheVariants.{Host, Library, Linked, Mixed}

-- there are bytes, and all of them are one
abbrev pub is_one_byte : List ℕ → Bool
is_one_byte file = not (length file == 0) && list_all (λ c. c == slice_index file 0) file

-- a slot of the first block has a segment: neither its address nor its length is 0
abbrev pub is_used : Order → List ℕ → ℕ → Bool
is_used order block slot = not (word_at order block (4 * slot) == 0)
    && not (word_at order block (4 * slot + 2) == 0)

-- what a later release has of a slot in the second half of the block: from bit 13 on a version, and
-- in the low byte a number
abbrev pub information : Order → List ℕ → ℕ → ℕ
information order block slot = word_at order block (256 + 2 * slot)

abbrev pub has_version : ℕ → ℕ → ℕ → Bool
has_version first last word = nat_le first (word / 8192) && nat_le (word / 8192) last
    && not (word % 256 == 0)

-- the slot has a segment with a version from `first` to `last`, a number and a name that a person
-- can read, or neither a segment nor a version nor a number
abbrev pub is_of_version : Order → List ℕ → ℕ → ℕ → ℕ → Bool
is_of_version order block first last slot = if is_used order block slot
    then has_version first last (information order block slot)
    && list_all is_letter (name_at block slot)
    else information order block slot == 0

-- each slot is as in these releases, and one has a segment
unfoldable pub has_versions : Order → List ℕ → ℕ → ℕ → Bool
has_versions order block first last = list_all (is_of_version order block first last) slots
    && list_any (is_used order block) slots

-- the block is that of a release IV.0, whose last word is 1, or of one after it
abbrev pub is_four : Order → List ℕ → Bool
is_four order block = word_at order block 510 == 1 && has_versions order block 4 7

-- the file is that of a release III.0 or later
abbrev pub is_later_in : Order → List ℕ → Bool
is_later_in order block = is_four order block || has_versions order block 3 3

-- the file is a code file of a later release
unfoldable pub is_later : List ℕ → Bool
is_later file = not (nat_lt (length file) 512)
    && (is_later_in Little (take 512 file) || is_later_in Big (take 512 file))

-- the place of the word of a procedure at the end of a code, and its distance to the table
abbrev pub word_place : List ℕ → ℕ → ℕ
word_place code number = length code - (2 + 2 * number)

abbrev pub distance : Order → List ℕ → ℕ → ℕ
distance order code number = word_at order code (word_place code number)

-- the word is in the code
abbrev pub has_word : List ℕ → ℕ → Bool
has_word code number = not (nat_lt (length code) (2 + 2 * number))

-- the procedure has a table
abbrev pub has_table : Order → List ℕ → ℕ → Bool
has_table order code number = has_word code number && not (distance order code number == 0)

-- the byte at a place of a code, if there is one, is this number
abbrev pub is_number_at : List ℕ → ℕ → ℕ → Bool
is_number_at code place number = option_map_or (λ b. b == number) (slice_get code place) false

-- the word of the procedure is in the code, and its table, if it has one, has its number so many
-- bytes after the byte that the word names
abbrev pub has_number : Order → List ℕ → ℕ → ℕ → Bool
has_number order code after number = has_word code number
    && (not (has_table order code number)
    || is_number_at code (word_place code number - distance order code number + after) number)

-- each of so many procedures, from 1 on, has its number, and one has a table
unfoldable pub has_numbers : Order → List ℕ → ℕ → ℕ → Bool
has_numbers order code count after =
    list_all (λ k. has_number order code after (k + 1)) (range_with_len 0 count)
    && list_any (λ k. has_table order code (k + 1)) (range_with_len 0 count)

-- the bytes of a code are exchanged in pairs: its numbers are as they ought to be where the other
-- byte of each pair is read
unfoldable pub is_swapped : Order → List ℕ → Bool
is_swapped order code = not (nat_lt (length code) 2)
    && (has_numbers order code (slice_index code (length code - 2)) 1
    && not (has_numbers order code (slice_index code (length code - 1)) 0))

-- a slot is filled with a code of which a link resolves the references
abbrev pub is_linkable : Order → List ℕ → ℕ → Bool
is_linkable order file slot = kind_needs_linking (entry_at order file slot).kind
    && is_filled (entry_at order file slot) && is_ok (code_of file (entry_at order file slot))

-- the bytes of its code are exchanged in pairs
abbrev pub is_swapped_code : Order → Result (List ℕ) Reason → Bool
is_swapped_code order (Ok code) = is_swapped order code
is_swapped_code order (Err why) = false

abbrev pub is_swapped_slot : Order → List ℕ → ℕ → Bool
is_swapped_slot order file slot = not (is_linkable order file slot)
    || is_swapped_code order (code_of file (entry_at order file slot))

-- the codes of all slots that are to be linked have swapped bytes, and there is one
unfoldable pub is_swapped_in : Order → List ℕ → Bool
is_swapped_in order file = list_all (is_swapped_slot order file) slots
    && list_any (is_linkable order file) slots

-- a slot is filled with a linked code
abbrev pub is_linked : Order → List ℕ → ℕ → Bool
is_linked order file slot = (entry_at order file slot).kind == 0
    && is_filled (entry_at order file slot)

-- the code of a slot has swapped bytes, if it is linked
abbrev pub is_swapped_linked : Order → List ℕ → ℕ → Bool
is_swapped_linked order file slot = not (is_linked order file slot)
    || is_swapped_code order (code_of file (entry_at order file slot))

-- the last two bytes of a code differ: the number of the segment and that of its procedures
unfoldable pub has_two_numbers : List ℕ → Bool
has_two_numbers code = not (nat_lt (length code) 2)
    && not (slice_index code (length code - 2) == slice_index code (length code - 1))

abbrev pub code_has_two_numbers : Result (List ℕ) Reason → Bool
code_has_two_numbers (Ok code) = has_two_numbers code
code_has_two_numbers (Err why) = false

-- a linked code says by its last two bytes which of them is the number of its procedures
abbrev pub is_shown_linked : Order → List ℕ → ℕ → Bool
is_shown_linked order file slot = is_linked order file slot
    && code_has_two_numbers (code_of file (entry_at order file slot))

-- no code is to be linked, each linked one has swapped bytes, and one of them shows it: an assembled
-- procedure of segment 1 may look so by right
unfoldable pub is_swapped_link : Order → List ℕ → Bool
is_swapped_link order file = not (list_any (is_linkable order file) slots)
    && (list_all (is_swapped_linked order file) slots
    && list_any (is_shown_linked order file) slots)

-- the bytes of a file that can be read are exchanged in pairs
abbrev pub is_swapped_file : Result OpenedFile Reason → Bool
is_swapped_file (Ok f) = is_swapped_in f.order f.file || is_swapped_link f.order f.file
is_swapped_file (Err why) = false

-- a file that can be read is a code file
abbrev pub is_for_something : Result OpenedFile Reason → Bool
is_for_something (Ok f) = is_some (code_file f.order f.file)
is_for_something (Err why) = false

-- what a file that can be read is for
abbrev pub purpose_in : Result OpenedFile Reason → Option CodeFile
purpose_in (Ok f) = code_file f.order f.file
purpose_in (Err why) = None

-- it is for a host program
abbrev pub is_hosts : Option CodeFile → Bool
is_hosts (Some Host) = true
is_hosts (Some Library) = false
is_hosts (Some Linked) = false
is_hosts (Some Mixed) = false
is_hosts None = false

-- the file is a code file as it ought to be
unfoldable pub is_code_type : List ℕ → Bool
is_code_type file = not (is_one_byte file) && not (is_later file)
    && is_for_something (opened file) && not (is_swapped_file (opened file))

-- the file is a code file as it ought to be that has a host program
abbrev pub is_host_type : List ℕ → Bool
is_host_type file = is_code_type file && is_hosts (purpose_in (opened file))
