-- The segment dictionary in block 0 of a code file: its byte order, its entries and the role of
-- each, the code and the link information of an entry.
-- Source: UCSD Pascal II.0 manual, code file format. How the byte order is found, the roles, and
-- the tail, which is copied unread, are this project's profile.
use Rattle.std.specs.Prelude.{◌≡◌, Result, ℕ, ◌+◌, ◌*◌, ◌%◌, ◌==◌, ◌&&◌, ◌||◌, not, if◌then◌else◌, List, length, slice_index, slice_range, drop, map, nat_le, nat_lt, Bool, true, false, Ok, Err}
use Rattle.std.specs.List.{list_all, range_with_len}
use Rattle.ps_words.specs.Words.{word_at, blocks}
use Rattle.ps_words.specs.declared.order.Order.{Order}
use Rattle.ps_words.specs.declared.order.Order.TheVariants.{Little, Big}
use Rattle.ps_codefile.specs.declared.entry.Role.{Role}
use Rattle.ps_codefile.specs.declared.entry.Role.TheVariants as role
use Rattle.ps_codefile.specs.declared.entry.Entry.{Entry}
use Rattle.ps_words.specs.declared.fault.Reason.{Reason}
use Rattle.ps_words.specs.declared.fault.Reason.TheVariants as reason
use Rattle.ps_words.specs.declared.words.TheConstants.{BLOCK_SIZE}
use Rattle.ps_codefile.specs.declared.code_layout.TheConstants.{MAX_CODE_LEN}
use Rattle.ps_codefile.specs.declared.dictionary_layout.TheConstants.{NAMES, KINDS, TEXTS, TAIL, SLOTS}

-- the slots of a dictionary
abbrev pub slots : List ℕ
slots = range_with_len 0 SLOTS

-- the length of a block in bytes, and so of the dictionary
abbrev pub block_len : ℕ
block_len = BLOCK_SIZE

-- the offset of the names; the pairs of address and length begin at 0
abbrev pub names_start : ℕ
names_start = NAMES

-- the offset of the kind words
abbrev pub kinds_start : ℕ
kinds_start = KINDS

-- the offset of the text addresses
abbrev pub texts_start : ℕ
texts_start = TEXTS

-- the offset of the tail, which ends with the block
abbrev pub tail_start : ℕ
tail_start = TAIL

-- What the sixteen kind words say of a file's byte order: nothing, for all are 0; this order; or no
-- one order.
pub data FileOrder : Type 0 where
  Zero : FileOrder
  Ordered : (order : Order) → FileOrder
  Mixed : FileOrder

-- A kind is below 256, so the high byte of each kind word is 0.
abbrev pub file_order : List ℕ → FileOrder
file_order file =
    let firsts_zero = list_all (λ i. slice_index file (kinds_start + 2 * i) == 0) slots in
    let seconds_zero = list_all (λ i. slice_index file (kinds_start + 1 + 2 * i) == 0) slots in
    if firsts_zero then (if seconds_zero then Zero else Ordered Big)
    else (if seconds_zero then Ordered Little else Mixed)

-- the name of slot i
abbrev pub name_at : List ℕ → ℕ → List ℕ
name_at file i = slice_range file (names_start + 8 * i) (names_start + 8 * i + 8)

-- what the dictionary says of slot i
abbrev pub entry_at : Order → List ℕ → ℕ → Entry
entry_at order file i = record {
  address = word_at order file (4 * i);
  length = word_at order file (4 * i + 2);
  name = name_at file i;
  kind = word_at order file (kinds_start + 2 * i);
  text = word_at order file (texts_start + 2 * i);
}

-- the names of all slots
abbrev pub names_of : List ℕ → List (List ℕ)
names_of file = map (name_at file) slots

-- what follows the text addresses, up to the end of the block
abbrev pub tail_of : List ℕ → List ℕ
tail_of file = slice_range file tail_start block_len

-- eight blanks, or eight zero bytes
abbrev pub is_nameless : List ℕ → Bool
is_nameless name = list_all (λ b. b == 32) name || list_all (λ b. b == 0) name

-- the role of a filled slot of this kind
abbrev pub role_of_kind : ℕ → Result Role Reason
role_of_kind kind =
    if kind == 0 then Ok role.Plain
    else (if kind == 1 then Ok role.Host
    else (if kind == 2 then Err reason.SegmentProcedure
    else (if kind == 3 then Ok role.Unit
    else (if kind == 4 then Err reason.NativeSegment
    else (if nat_le kind 7 then Err reason.Intrinsic else Err reason.UnknownKind)))))

-- A slot of kind 3 with address 0 or length 0 is wanted if it has a name, and empty if it has none.
-- Any other slot of length 0 is empty. The rest are filled, and their kind decides.
abbrev pub role_of : Entry → Result Role Reason
role_of e =
    if e.kind == 3 && (e.address == 0 || e.length == 0) && not (is_nameless e.name)
    then Ok role.Wanted
    else (if e.kind == 3 && (e.address == 0 || e.length == 0) then Ok role.Empty
    else (if e.length == 0 then Ok role.Empty else role_of_kind e.kind))

-- the slot is neither wanted nor empty, whatever its kind; whether its code can be read is another
-- question
abbrev pub is_filled : Entry → Bool
is_filled e = not (e.length == 0) && not (e.kind == 3 && e.address == 0)

-- the kind is that of a segment with link information, a host's or a unit's
abbrev pub kind_needs_linking : ℕ → Bool
kind_needs_linking kind = kind == 1 || kind == 3

-- a segment with link information has at least one procedure word's place and a whole number of
-- words
abbrev pub has_bad_length : Entry → Bool
has_bad_length e = nat_lt MAX_CODE_LEN e.length
    || (kind_needs_linking e.kind && (e.length % 2 == 1 || nat_lt e.length 4))

-- the code of a filled entry, or the first reason why it has none
abbrev pub code_of : List ℕ → Entry → Result (List ℕ) Reason
code_of file e =
    if has_bad_length e then Err reason.BadLength
    else (if e.address == 0 then Err reason.BadAddress
    else (if nat_lt (length file) (block_len * e.address + e.length) then Err reason.Truncated
    else Ok (slice_range file (block_len * e.address) (block_len * e.address + e.length))))

-- the link information of an entry: the file from the block after its code, nothing where that lies
-- past the end
abbrev pub information_of : List ℕ → Entry → List ℕ
information_of file e = drop (block_len * (e.address + blocks e.length)) file

-- A file whose words are read in this order.
pub record OpenedFile : Type 0 where
  pub order : Order
  pub file : List ℕ

-- a file read in the order that its kind words say; where all are 0 it has no host, and mixed ones
-- give no order
abbrev pub opened_as : List ℕ → FileOrder → Result OpenedFile Reason
opened_as file Zero = Err reason.NoHost
opened_as file (Ordered order) = Ok (record { order = order; file = file })
opened_as file Mixed = Err reason.NoOrder

-- a host, or any file read by itself: one with no kind but 0 has no host segment
abbrev pub opened_alone : List ℕ → Result OpenedFile Reason
opened_alone file = if nat_lt (length file) block_len then Err reason.ShortFile
    else opened_as file (file_order file)

-- the two byte orders are the same
abbrev pub same_order : Order → Order → Bool
same_order Little Little = true
same_order Little Big = false
same_order Big Little = false
same_order Big Big = true

-- a file read in the host's order, where its kind words say that order or nothing
abbrev pub opened_beside_as : Order → List ℕ → FileOrder → Result OpenedFile Reason
opened_beside_as host file Zero = Ok (record { order = host; file = file })
opened_beside_as host file (Ordered order) = if same_order order host
    then Ok (record { order = host; file = file }) else Err reason.OrderMismatch
opened_beside_as host file Mixed = Err reason.NoOrder

-- a library, which has the host's byte order or none of its own
abbrev pub opened_beside : Order → List ℕ → Result OpenedFile Reason
opened_beside host file = if nat_lt (length file) block_len then Err reason.ShortFile
    else opened_beside_as host file (file_order file)

-- an answer is a result, its value seen through a view
abbrev pub IsViewOf : {X Y E : Type 0} → (X → Y) → Result X E → Result Y E → Type 0
IsViewOf view (Ok x) answer = answer ≡ Ok (view x)
IsViewOf view (Err e) answer = answer ≡ Err e
