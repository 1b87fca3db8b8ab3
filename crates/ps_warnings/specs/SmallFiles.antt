-- A small host and a small library, as a compiler may write them: the host defines COUNT, and UTIL,
-- which it wants, refers to COUNT and has the private variable STATE.
-- Source: this project's examples.
use Rattle.std.specs.Prelude.{ℕ, ◌-◌, ◌==◌, if◌then◌else◌, List, [], ◌∷◌, ◌++◌, length, replicate, Ok, Some, codes}
use Rattle.std.specs.List.{flat_map}
use Rattle.ps_words.specs.Words.{word_bytes}
use Rattle.ps_words.specs.declared.order.Order.{Order}
use Rattle.ps_codefile.specs.Dictionary.{slots}
use Rattle.ps_codefile.specs.declared.entry.Entry.{Entry}
use Rattle.ps_linkinfo.specs.declared.record.Body.TheVariants.{PublDef, PublRef, PrivRef, Eof}
use Rattle.ps_linkinfo.specs.declared.record.LinkRecord.{LinkRecord as Record}
use Rattle.ps_check_segments.specs.Seen.{Seen}
use Rattle.ps_check_segments.specs.declared.segments.SegmentPart.{SegmentPart}
use Rattle.ps_check_segments.specs.declared.segments.SegmentPart.TheVariants as part
use Rattle.ps_warnings.specs.SmallEntries.{blank, empty_entry, util}
use Rattle.ps_warnings.specs.SmallRecords.{count}

-- the names of the host program and of a private variable
abbrev pub demo : List ℕ
demo = codes "DEMO    "

abbrev pub state : List ℕ
state = codes "STATE   "

-- 1. the bytes of files
-- an entry in block 1, of this length, name and kind
abbrev pub entry_of : ℕ → List ℕ → ℕ → Entry
entry_of len name kind =
    record { address = 1; length = len; name = name; kind = kind; text = 0 }

-- a dictionary whose slots have these entries, and zeros after their kinds
abbrev pub dictionary : Order → (ℕ → Entry) → List ℕ
dictionary order entry =
    flat_map (λ k. word_bytes order (entry k).address ++ word_bytes order (entry k).length) slots
    ++ flat_map (λ k. (entry k).name) slots
    ++ flat_map (λ k. word_bytes order (entry k).kind) slots ++ replicate 288 0

-- the bytes of a code, filled up with zeros to a block
abbrev pub block_of : List ℕ → List ℕ
block_of code = code ++ replicate (512 - length code) 0

-- a record without its references: a name, a type and three words
abbrev pub record_of : Order → List ℕ → ℕ → ℕ → ℕ → ℕ → List ℕ
record_of order name kind a b c = name ++ word_bytes order kind ++ word_bytes order a
    ++ word_bytes order b ++ word_bytes order c

-- one reference, filled up with zeros to eight
abbrev pub reference_to : Order → ℕ → List ℕ
reference_to order place = word_bytes order place ++ replicate 14 0

-- 2. the host
-- DEMO in slot 1 wants UTIL in slot 7
abbrev pub host_entry : ℕ → Entry
host_entry slot = if slot == 1 then entry_of 18 demo 1
    else (if slot == 7 then empty_entry util 3 else empty_entry blank 0)

-- an outer block with 10 bytes of data, and segment number 1
abbrev pub demo_code : Order → List ℕ
demo_code order = 215 ∷ 215 ∷ 193 ∷ 0 ∷ word_bytes order 10 ++ word_bytes order 4
    ++ word_bytes order 6 ++ word_bytes order 10 ++ 1 ∷ 0 ∷ word_bytes order 2 ++ 1 ∷ 1 ∷ []

-- it defines COUNT at base offset 3, and its end mark says that this one is free
abbrev pub demo_records : Order → ℕ → List ℕ
demo_records order next = record_of order count 7 3 0 0 ++ record_of order blank 0 next 0 0

abbrev pub host_until : ℕ → Order → List ℕ
host_until next order = dictionary order host_entry ++ block_of (demo_code order)
    ++ demo_records order next

-- the host, and one whose end mark is below half the data size
abbrev pub small_host : Order → List ℕ
small_host = host_until 8

abbrev pub low_host : Order → List ℕ
low_host = host_until 4

-- 3. the library
-- UTIL in slot 2
abbrev pub library_entry : ℕ → Entry
library_entry slot = if slot == 2 then entry_of 24 util 3 else empty_entry blank 0

-- word 0 of COUNT at byte 1 and word 2 of STATE at byte 4, in a procedure of segment 2
abbrev pub util_code : Order → List ℕ
util_code order = 165 ∷ 128 ∷ 0 ∷ 171 ∷ 128 ∷ 2 ∷ 215 ∷ 215 ∷ 173 ∷ replicate 5 0
    ++ word_bytes order 6 ++ word_bytes order 16 ++ 1 ∷ 0 ∷ word_bytes order 2
    ++ 2 ∷ 1 ∷ []

-- COUNT has an operand at byte 1, and STATE, of four words, one at byte 4
abbrev pub util_records : Order → List ℕ
util_records order = record_of order count 3 2 1 0 ++ reference_to order 1
    ++ record_of order state 4 2 1 4 ++ reference_to order 4 ++ record_of order blank 0 0 0 0

abbrev pub small_library : Order → List ℕ
small_library order = dictionary order library_entry ++ block_of (util_code order)
    ++ util_records order

-- 4. their segments
-- a segment of this slot, this name and these records, from an entry of a file
abbrev pub segment_from : ℕ → List ℕ → SegmentPart → ℕ → ℕ → ℕ → List Record
    → Seen
segment_from slot name what file index size records = record {
  slot = Some slot;
  name = name;
  part = what;
  origin = Ok (record { file = file; index = index; size = size });
  file = Some file;
  records = records;
}

abbrev pub demo_segment : ℕ → Seen
demo_segment next = segment_from 1 demo part.Host 0 1 18
    (record { name = count; body = PublDef 3 } ∷ record { name = blank; body = Eof next } ∷ [])

abbrev pub util_segment : Seen
util_segment = segment_from 7 util part.Wanted 1 2 24
    (record { name = count; body = PublRef (1 ∷ []) }
    ∷ record { name = state; body = PrivRef 4 (4 ∷ []) }
    ∷ record { name = blank; body = Eof 0 } ∷ [])

-- those of a host with this end mark and of the library
abbrev pub pair_until : ℕ → List Seen
pair_until next = demo_segment next ∷ util_segment ∷ []
