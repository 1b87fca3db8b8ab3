-- What a code file is for, by the kinds of its segments.
-- Source: this project's profile, over the kinds of the UCSD Pascal II.0 manual.
use Rattle.std.specs.Prelude.{ℕ, ◌==◌, ◌&&◌, ◌||◌, not, if◌then◌else◌, List, nat_le, Bool, false, Option, Some, None, Result, Ok, Err, codes}
use Rattle.std.specs.List.{list_all, list_any}
use Rattle.ps_words.specs.declared.order.Order.{Order}
use Rattle.ps_words.specs.declared.fault.Reason.{Reason}
use Rattle.ps_codefile.specs.Dictionary.{entry_at, is_filled, is_nameless, role_of, slots}
use Rattle.ps_codefile.specs.Opened.{has_code}
use Rattle.ps_codefile.specs.Roles.{is_wanted}
use Rattle.ps_codefile.specs.declared.entry.Entry.{Entry}
use Rattle.ps_codefile.specs.declared.entry.Role.{Role}
use Rattle.ps_filetype.specs.Shown.{is_printed}
use Rattle.ps_filetype.specs.declared.code_file.CodeFile.{CodeFile}
use Rattle.ps_filetype.specs.declared.code_file.CodeFile.TheVariants.{Host, Library, Linked, Mixed}

-- a slot of this role wants a unit
abbrev pub wants_unit : Result Role Reason → Bool
wants_unit (Ok role) = is_wanted role
wants_unit (Err why) = false

-- the entry says what its file is for: it is filled, or wants a unit
abbrev pub tells : Entry → Bool
tells e = is_filled e || wants_unit (role_of e)

-- the entry of a slot says it, and is of this kind
abbrev pub is_kind : ℕ → Order → List ℕ → ℕ → Bool
is_kind kind order file slot = tells (entry_at order file slot)
    && (entry_at order file slot).kind == kind

-- some entry says it and is of this kind: 1 of a host program, 0 of a linked segment
unfoldable pub has_kind : ℕ → Order → List ℕ → Bool
has_kind kind order file = list_any (is_kind kind order file) slots

-- the entry of a slot says it, and is of neither
abbrev pub is_other : Order → List ℕ → ℕ → Bool
is_other order file slot = tells (entry_at order file slot) && not (is_kind 1 order file slot)
    && not (is_kind 0 order file slot)

-- some entry says it and is of neither
unfoldable pub has_other : Order → List ℕ → Bool
has_other order file = list_any (is_other order file) slots

-- what the entries that say it say a file is for, by their kinds, and nothing where none does
abbrev pub purpose_of : Order → List ℕ → Option CodeFile
purpose_of order file =
    if has_kind 1 order file then Some Host
    else (if has_kind 0 order file then (if has_other order file then Some Mixed else Some Linked)
    else (if has_other order file then Some Library else None))

-- a byte of a name that a person can read: ASCII prints it, or it is a 0 in place of a blank
abbrev pub is_letter : ℕ → Bool
is_letter byte = is_printed byte || byte == 0

-- a byte of a name: such a one, or one above 127, as some systems have for national letters
abbrev pub is_name_byte : ℕ → Bool
is_name_byte byte = is_letter byte || nat_le 128 byte

-- a name can be read: each of its bytes is such a one, and it is not blank
abbrev pub is_readable : List ℕ → Bool
is_readable name = list_all is_name_byte name && not (is_nameless name)

-- the entry of a slot is that of a code: its kind is one of those that there are, and its name can
-- be read
abbrev pub shows_code : Order → List ℕ → ℕ → Bool
shows_code order file slot = is_filled (entry_at order file slot)
    && nat_le (entry_at order file slot).kind 7 && is_readable (entry_at order file slot).name

-- some entry is that of a code
unfoldable pub has_shown_code : Order → List ℕ → Bool
has_shown_code order file = list_any (shows_code order file) slots

-- the kind of a slot is not 0
abbrev pub has_other_kind : Order → List ℕ → ℕ → Bool
has_other_kind order file slot = not ((entry_at order file slot).kind == 0)

-- some kind is not 0
unfoldable pub has_kinds : Order → List ℕ → Bool
has_kinds order file = list_any (has_other_kind order file) slots

-- The file is a code file: some entry is that of a code. Where all kinds are 0 they say nothing, so
-- some code with a name is whole.
abbrev pub is_code_file : Order → List ℕ → Bool
is_code_file order file = if has_kinds order file then has_shown_code order file
    else has_code order file

-- what a code file is for, and nothing where the file is none
unfoldable pub code_file : Order → List ℕ → Option CodeFile
code_file order file = if is_code_file order file then purpose_of order file else None

-- the word for it
abbrev pub code_file_word : CodeFile → List ℕ
code_file_word Host = codes "host"
code_file_word Library = codes "library"
code_file_word Linked = codes "linked"
code_file_word Mixed = codes "mixed"
