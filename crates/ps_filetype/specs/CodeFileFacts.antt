-- Which files are code files as they ought to be, in the words of the pages: of entries, bytes and
-- codes, and not by the steps of a search.
-- Source: this project's profile, over the segment dictionaries of UCSD Pascal II.0, III.0 and
-- IV.0.
use Rattle.std.specs.Prelude.{◌≡◌, ◌≢◌, ◌⊎◌, ℕ, ◌+◌, ◌-◌, ◌*◌, ◌/◌, ◌%◌, ◌<◌, ◌≤◌, true, false, List, length, slice_get, slice_index, take, Some, Ok}
use Rattle.std.specs.List.{All}
use Rattle.ps_words.specs.Words.{word_at}
use Rattle.ps_words.specs.declared.order.Order.{Order}
use Rattle.ps_codefile.specs.Dictionary.{OpenedFile, code_of, entry_at, is_filled, is_nameless, name_at}
use Rattle.ps_codefile.specs.Opened.{opened}
use Rattle.ps_codefile.specs.declared.dictionary_layout.TheConstants.{SLOTS}

-- 1. slots
abbrev pub EachSlot : (ℕ → Type 0) → Type 0
EachSlot P = (slot : ℕ) → slot < SLOTS → P slot

abbrev pub SomeSlot : (ℕ → Type 0) → Type 0
SomeSlot P = (slot : ℕ) × (slot < SLOTS) × P slot

-- 2. entries
-- the byte is a printable character, or a 0 in place of a blank
abbrev pub IsLetter : ℕ → Type 0
IsLetter byte = (byte ≡ 0) ⊎ ((32 ≤ byte) × (byte ≤ 126))

-- the name is not blank, and has printable characters, zeros and bytes above 127 alone
abbrev pub IsReadable : List ℕ → Type 0
IsReadable name = All (λ byte. IsLetter byte ⊎ (128 ≤ byte)) name × (is_nameless name ≡ false)

-- the slot is filled, with a kind up to 7 and a name that can be read
abbrev pub ShowsSegment : Order → List ℕ → ℕ → Type 0
ShowsSegment order file slot = (is_filled (entry_at order file slot) ≡ true)
    × ((entry_at order file slot).kind ≤ 7) × IsReadable (entry_at order file slot).name

-- the slot is filled, with a name that is not blank, and its code is whole in the file
abbrev pub HasItsCode : Order → List ℕ → ℕ → Type 0
HasItsCode order file slot = (is_filled (entry_at order file slot) ≡ true)
    × (is_nameless (entry_at order file slot).name ≡ false)
    × ((code : List ℕ) × (code_of file (entry_at order file slot) ≡ Ok code))

-- the entries are those of a code file: where some kind is not 0 some slot shows a segment, and where
-- all are 0, as in a linked file, some slot has its code
abbrev pub HasSegments : Order → List ℕ → Type 0
HasSegments order file =
    (SomeSlot (λ slot. (entry_at order file slot).kind ≢ 0) × SomeSlot (ShowsSegment order file))
    ⊎ (EachSlot (λ slot. (entry_at order file slot).kind ≡ 0) × SomeSlot (HasItsCode order file))

-- 3. later releases
-- a slot of the block has a segment: an address and a length that are not 0
abbrev pub IsUsed : Order → List ℕ → ℕ → Type 0
IsUsed order block slot = (word_at order block (4 * slot) ≢ 0)
    × (word_at order block (4 * slot + 2) ≢ 0)

-- the word of a slot from byte 256 on
abbrev pub segment_word : Order → List ℕ → ℕ → ℕ
segment_word order block slot = word_at order block (256 + 2 * slot)

-- a segment of a later release: its word has a version from `first` to `last` in its three highest bits
-- and a number in its low byte, and its name has printable characters and zeros alone
pub record IsOfVersion (order : Order) (block : List ℕ) (first last slot : ℕ) : Type 0 where
  pub from : first ≤ segment_word order block slot / 8192
  pub to : segment_word order block slot / 8192 ≤ last
  pub number : segment_word order block slot % 256 ≢ 0
  pub name : All IsLetter (name_at block slot)

-- the block has a segment, each is of such a version, and the word of each other slot is 0
pub record HasVersions (order : Order) (block : List ℕ) (first last : ℕ) : Type 0 where
  pub some : SomeSlot (IsUsed order block)
  pub each : EachSlot (λ slot. IsUsed order block slot → IsOfVersion order block first last slot)
  pub rest : EachSlot (λ slot. (IsUsed order block slot → ⊥) → segment_word order block slot ≡ 0)

-- a file of III.0 has version 3, and one of IV.0 or later a version from 4 on and the word 1 at byte
-- 510, in one byte order
abbrev pub IsOfLaterRelease : List ℕ → Type 0
IsOfLaterRelease file = (512 ≤ length file) × ((order : Order)
    × (((word_at order (take 512 file) 510 ≡ 1) × HasVersions order (take 512 file) 4 7)
    ⊎ HasVersions order (take 512 file) 3 3))

-- 4. bytes that are exchanged in pairs
-- the word of a procedure, from the end of a code, and the place to which it leads
abbrev pub procedure_word : Order → List ℕ → ℕ → ℕ
procedure_word order code number = word_at order code (length code - (2 + 2 * number))

abbrev pub table_place : Order → List ℕ → ℕ → ℕ
table_place order code number =
    length code - (2 + 2 * number) - procedure_word order code number

-- the code has the word of a procedure, and where that is not 0 the number of the procedure so many
-- bytes after the place to which it leads
abbrev pub IsNumbered : Order → List ℕ → ℕ → ℕ → Type 0
IsNumbered order code after number = (2 + 2 * number ≤ length code)
    × ((procedure_word order code number ≢ 0)
    → slice_get code (table_place order code number + after) ≡ Some number)

-- each of so many procedures, from 1 on, is numbered so, and one has a table
pub record HasProcedures (order : Order) (code : List ℕ) (count after : ℕ) : Type 0 where
  pub each : (k : ℕ) → k < count → IsNumbered order code after (k + 1)
  pub some : (k : ℕ) × (k < count) × (2 + 2 * (k + 1) ≤ length code)
      × (procedure_word order code (k + 1) ≢ 0)

-- The bytes of a code are exchanged in pairs: the byte before the last says how many procedures it has,
-- each of which has its number in the other byte of a pair; and the last byte does not say so, with
-- each number in its own.
pub record IsExchangedCode (order : Order) (code : List ℕ) : Type 0 where
  pub numbers : 2 ≤ length code
  pub other : HasProcedures order code (slice_index code (length code - 2)) 1
  pub own : HasProcedures order code (slice_index code (length code - 1)) 0 → ⊥

-- a slot is filled with a code whose references a link resolves: of a host or a unit
abbrev pub IsToBeLinked : Order → List ℕ → ℕ → Type 0
IsToBeLinked order file slot = (((entry_at order file slot).kind ≡ 1)
    ⊎ ((entry_at order file slot).kind ≡ 3)) × (is_filled (entry_at order file slot) ≡ true)
    × ((code : List ℕ) × (code_of file (entry_at order file slot) ≡ Ok code))

-- a slot is filled with a linked code
abbrev pub IsLinkedSlot : Order → List ℕ → ℕ → Type 0
IsLinkedSlot order file slot = ((entry_at order file slot).kind ≡ 0)
    × (is_filled (entry_at order file slot) ≡ true)

-- the slot has a code that is exchanged
abbrev pub HasExchangedCode : Order → List ℕ → ℕ → Type 0
HasExchangedCode order file slot = (code : List ℕ)
    × (code_of file (entry_at order file slot) ≡ Ok code) × IsExchangedCode order code

-- the slot has a code whose last two bytes differ: the number of its segment and that of its
-- procedures
abbrev pub HasTwoNumbers : Order → List ℕ → ℕ → Type 0
HasTwoNumbers order file slot = (code : List ℕ)
    × (code_of file (entry_at order file slot) ≡ Ok code) × (2 ≤ length code)
    × (slice_index code (length code - 2) ≢ slice_index code (length code - 1))

-- each code that is to be linked is exchanged, and there is one
abbrev pub IsExchangedToLink : Order → List ℕ → Type 0
IsExchangedToLink order file =
    EachSlot (λ slot. IsToBeLinked order file slot → HasExchangedCode order file slot)
    × SomeSlot (IsToBeLinked order file)

-- none is to be linked, each linked code is exchanged, and one of them shows it
abbrev pub IsExchangedLinked : Order → List ℕ → Type 0
IsExchangedLinked order file = (SomeSlot (IsToBeLinked order file) → ⊥)
    × EachSlot (λ slot. IsLinkedSlot order file slot → HasExchangedCode order file slot)
    × SomeSlot (λ slot. IsLinkedSlot order file slot × HasTwoNumbers order file slot)

-- 5. the file has a byte, and all of its bytes are this one
abbrev pub IsOneByte : List ℕ → Type 0
IsOneByte file = (byte : ℕ) × (0 < length file) × All (λ other. other ≡ byte) file

-- A file that can be read by itself is a code file as it ought to be.
pub record IsCodeFileAsItOughtToBe (file : List ℕ) : Type 0 where
  pub read : OpenedFile
  pub opens : opened file ≡ Ok read
  pub entry : HasSegments read.order read.file
  pub not_one_byte : IsOneByte file → ⊥
  pub not_later : IsOfLaterRelease file → ⊥
  pub not_exchanged : (IsExchangedToLink read.order read.file
      ⊎ IsExchangedLinked read.order read.file) → ⊥
