-- A small host with five libraries, of which some are not used, and what a report says of their
-- segments. The texts are worked out from the files by hand.
-- Source: this project's examples.
use Rattle.std.specs.Prelude.{ℕ, ◌==◌, if◌then◌else◌, List, [], ◌∷◌, ◌++◌, None, Err, codes}
use Rattle.ps_words.specs.declared.order.Order.TheVariants.{Little}
use Rattle.ps_codefile.specs.declared.entry.Entry.{Entry}
use Rattle.ps_reading.specs.declared.slot_reading.Absent.TheVariants as absent
use Rattle.ps_check_segments.specs.Seen.{Seen}
use Rattle.ps_check_segments.specs.declared.segments.SegmentPart.TheVariants as part
use Rattle.ps_warnings.specs.SmallEntries.{blank, empty_entry, util}
use Rattle.ps_warnings.specs.SmallFiles.{demo, dictionary, entry_of, segment_from}

-- the names of two more units
abbrev pub aux : List ℕ
aux = codes "AUX     "

abbrev pub tools : List ℕ
tools = codes "TOOLS   "

-- 1. the files, each a dictionary alone
-- DEMO in slot 1 of the host, which wants UTIL in slot 7 and has a segment procedure in slot 9
abbrev pub host_entry : ℕ → Entry
host_entry slot = if slot == 1 then entry_of 18 demo 1
    else (if slot == 7 then empty_entry util 3
    else (if slot == 9 then entry_of 40 tools 2 else empty_entry blank 0))

abbrev pub host : List ℕ
host = dictionary Little host_entry

-- the first library has none of the names; the second has UTIL in entry 3, and the third in entries 5
-- and 9, and DEMO
abbrev pub first_entry : ℕ → Entry
first_entry entry = if entry == 4 then entry_of 20 tools 3 else empty_entry blank 0

abbrev pub second_entry : ℕ → Entry
second_entry entry = if entry == 3 then entry_of 24 util 3 else empty_entry blank 0

abbrev pub third_entry : ℕ → Entry
third_entry entry = if entry == 5 then entry_of 26 util 3
    else (if entry == 9 then entry_of 28 util 3
    else (if entry == 12 then entry_of 18 demo 1 else empty_entry blank 0))

-- the fourth has AUX in entry 2, and of UTIL the name without a code; the fifth has AUX in entry 6 and
-- UTIL in entry 13
abbrev pub fourth_entry : ℕ → Entry
fourth_entry entry = if entry == 2 then entry_of 130 aux 3
    else (if entry == 8 then empty_entry util 3 else empty_entry blank 0)

abbrev pub fifth_entry : ℕ → Entry
fifth_entry entry = if entry == 6 then entry_of 32 aux 3
    else (if entry == 13 then entry_of 34 util 3 else empty_entry blank 0)

abbrev pub libraries : List (List ℕ)
libraries = dictionary Little first_entry ∷ dictionary Little second_entry
    ∷ dictionary Little third_entry ∷ dictionary Little fourth_entry
    ∷ dictionary Little fifth_entry ∷ []

abbrev pub paths : List (List ℕ)
paths = codes "host.code" ∷ codes "a.code" ∷ codes "b.code" ∷ codes "c.code" ∷ codes "d.code"
    ∷ codes "e.code" ∷ []

-- 2. segments: the host program, UTIL from the second library, and AUX, which its record 0 requests,
-- from the fourth; and AUX where no library has it
abbrev pub demo_segment : Seen
demo_segment = segment_from 1 demo part.Host 0 1 18 []

abbrev pub util_segment : Seen
util_segment = segment_from 7 util part.Wanted 2 3 24 []

abbrev pub aux_segment : Seen
aux_segment = segment_from 8 aux (part.Added util 0) 4 2 130 []

abbrev pub missing_segment : Seen
missing_segment = record aux_segment { origin = Err absent.Missing; file = None }

-- those of a link that takes UTIL and AUX, and of one that has no AUX
abbrev pub three : List Seen
three = demo_segment ∷ util_segment ∷ aux_segment ∷ []

abbrev pub without_aux : List Seen
without_aux = demo_segment ∷ util_segment ∷ missing_segment ∷ []

-- 3. what is said of each: UTIL is in two later libraries too, and AUX in one
abbrev pub demo_text : List ℕ
demo_text = codes "slot 01 DEMO: the host program, from host.code entry 01, 18 bytes\n"

abbrev pub util_text : List ℕ
util_text =
    codes "slot 07 UTIL: a unit that the host wants, from b.code entry 03, 24 bytes\n"
    ++ codes "  not used: c.code entry 05 has the name too, and 1 more library\n"

abbrev pub aux_text : List ℕ
aux_text =
    codes "slot 08 AUX: a unit that record 0 of UTIL requests, from d.code entry 02, 130 bytes\n"
    ++ codes "  not used: e.code entry 06 has the name too\n"

abbrev pub missing_text : List ℕ
missing_text = codes "slot 08 AUX: a unit that record 0 of UTIL requests, which no library has\n"

-- and after them: the slots of DEMO, UTIL, AUX and of the segment procedure are not without a
-- segment; nothing is taken from three libraries, of which file 1 is the first, and without AUX from
-- one more
abbrev pub rest_of_three : List ℕ
rest_of_three =
    codes "slots without a segment: 00 02 03 04 05 06 10 11 12 13 14 15\n"
    ++ codes "nothing is taken from file 1 a.code, and 2 more libraries\n"

abbrev pub rest_without_aux : List ℕ
rest_without_aux =
    codes "slots without a segment: 00 02 03 04 05 06 10 11 12 13 14 15\n"
    ++ codes "nothing is taken from file 1 a.code, and 3 more libraries\n"

-- 4. the libraries from which nothing is taken, where each segment is one of these
abbrev pub taken_from : ℕ → Seen
taken_from file = segment_from 7 util part.Wanted file 3 24 []
