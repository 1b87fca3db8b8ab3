-- Procedure tables at the end of a code: the procedure dictionary, the attribute tables that it
-- points to, and the places that no operand may cover.
-- Source: UCSD Pascal II.0 manual, code file format. That the places are reserved is this project's
-- profile.
use Rattle.std.specs.Prelude.{ℕ, ◌+◌, ◌-◌, ◌*◌, ◌==◌, ◌&&◌, ◌||◌, not, if◌then◌else◌, List, length, slice_index, map, nat_le, nat_lt, Bool, Option, Some, None, Result, Ok, Err}
use Rattle.std.specs.List.{list_all, list_any, range_with_len, filter_map}
use Rattle.std.specs.Option.{option_map}
use Rattle.ps_words.specs.Words.{word_at}
use Rattle.ps_words.specs.declared.order.Order.{Order}
use Rattle.ps_words.specs.declared.fault.Reason.{Reason}
use Rattle.ps_words.specs.declared.fault.Reason.TheVariants as reason

-- how many procedures a code has
abbrev pub procedures : List ℕ → ℕ
procedures code = slice_index code (length code - 1)

-- the length of the procedure dictionary: a word for each procedure, then the segment number and
-- the number of procedures
abbrev pub dictionary_len : List ℕ → ℕ
dictionary_len code = 2 + 2 * procedures code

-- the first place of the dictionary
abbrev pub dictionary_start : List ℕ → ℕ
dictionary_start code = length code - dictionary_len code

-- the content of a procedure's word
abbrev pub content_of : Order → List ℕ → ℕ → ℕ
content_of order code p = word_at order code (length code - 2 - 2 * p)

-- the place of the attribute table of procedure p: its word's place minus the word's content, and
-- none where that is 0
abbrev pub table_of : Order → List ℕ → ℕ → Option ℕ
table_of order code p =
    let content = content_of order code p in
    if content == 0 then None else Some (length code - 2 - 2 * p - content)

-- the data size of the outer block, procedure 1, in bytes: four words before its table's number
abbrev pub outer_data_size : Order → List ℕ → Option ℕ
outer_data_size order code = if procedures code == 0 then None
    else option_map (λ t. word_at order code (t - 8)) (table_of order code 1)

-- procedure p has no table, or one that begins in the code, eight bytes before its place, and ends
-- before the dictionary
abbrev pub is_placed : Order → List ℕ → ℕ → Bool
is_placed order code p =
    let content = content_of order code p in
    let place = length code - 2 - 2 * p in
    content == 0 || (nat_le (content + 8) place
    && nat_lt (place - content + 1) (dictionary_start code))

-- the numbers of the procedures
abbrev pub numbers : List ℕ → List ℕ
numbers code = range_with_len 1 (procedures code)

-- the content of each procedure's word
abbrev pub procedure_words : Order → List ℕ → List ℕ
procedure_words order code = map (content_of order code) (numbers code)

-- the places of all tables
abbrev pub tables : Order → List ℕ → List ℕ
tables order code = filter_map (table_of order code) (numbers code)

-- The first fault of the tables of a code, the host segment's or another's.
-- The tables are bad where the dictionary is longer than the code, where a table is not placed, or
-- where the host's outer block, procedure 1, has no body; a native procedure's number is 0.
abbrev pub tables_fault : Order → List ℕ → Bool → Option Reason
tables_fault order code host =
    if nat_lt (length code) (dictionary_len code)
    || not (list_all (is_placed order code) (numbers code))
    || (host && (procedures code == 0 || content_of order code 1 == 0))
    then Some reason.BadProcDict
    else (if list_any (λ t. slice_index code t == 0) (tables order code)
    then Some reason.NativeProcedure else None)

-- one of the ten bytes of the attribute table at t: the procedure number there, the lex level after
-- it, four words before it
abbrev pub is_in_table : ℕ → ℕ → Bool
is_in_table p t = nat_le (t - 8) p && nat_le p (t + 1)

-- a place that no operand may cover: the procedure dictionary, and each attribute table
abbrev pub is_reserved : Order → List ℕ → ℕ → Bool
is_reserved order code p = (nat_le (dictionary_start code) p && nat_lt p (length code))
    || list_any (is_in_table p) (tables order code)

-- A code whose words are read in this order, and whose procedure tables have no fault.
pub record ProcedureTables : Type 0 where
  pub order : Order
  pub code : List ℕ

-- the fault, if there is one, and else this value
abbrev pub unless : {X : Type 0} → Option Reason → X → Result X Reason
unless None x = Ok x
unless (Some why) x = Err why

-- the procedure tables of a code, the host segment's or another's, or their first fault
abbrev pub read_tables : Order → List ℕ → Bool → Result ProcedureTables Reason
read_tables order code host = unless (tables_fault order code host)
    (record { order = order; code = code })
