-- Small files on which the definitions are computed: a host that wants one unit, the library that
-- has it, and what such files are changed by.
-- Source: this project's examples.
use Rattle.std.specs.Prelude.{ℕ, ◌+◌, ◌-◌, ◌*◌, ◌/◌, List, [], ◌∷◌, ◌++◌, length, replicate, take, drop}
use Rattle.std.specs.List.{flat_map, range_with_len}
use Rattle.ps_words.specs.Words.{word_bytes}
use Rattle.ps_words.specs.declared.order.Order.{Order}
use Rattle.ps_words.specs.declared.order.Order.TheVariants.{Little, Big}

-- the bytes, filled up with zeros to n bytes
abbrev pub filled_to : ℕ → List ℕ → List ℕ
filled_to n bytes = bytes ++ replicate (n - length bytes) 0

-- the file with these bytes at a place
abbrev pub put_at : ℕ → List ℕ → List ℕ → List ℕ
put_at place bytes file = take place file ++ bytes ++ drop (place + length bytes) file

-- a name of eight blanks
abbrev pub blank_name : List ℕ
blank_name = replicate 8 32

-- the name of the host segment
abbrev pub demo : List ℕ
demo = 68 ∷ 69 ∷ 77 ∷ 79 ∷ 32 ∷ 32 ∷ 32 ∷ 32 ∷ []

-- the name of the unit that the host wants
abbrev pub util : List ℕ
util = 85 ∷ 84 ∷ 73 ∷ 76 ∷ 32 ∷ 32 ∷ 32 ∷ 32 ∷ []

-- the name of another unit
abbrev pub aux : List ℕ
aux = 65 ∷ 85 ∷ 88 ∷ 32 ∷ 32 ∷ 32 ∷ 32 ∷ 32 ∷ []

-- the name of a plain segment, and of a third unit
abbrev pub tools : List ℕ
tools = 84 ∷ 79 ∷ 79 ∷ 76 ∷ 83 ∷ 32 ∷ 32 ∷ 32 ∷ []

-- the name of a public variable of DEMO
abbrev pub count : List ℕ
count = 67 ∷ 79 ∷ 85 ∷ 78 ∷ 84 ∷ 32 ∷ 32 ∷ 32 ∷ []

-- `count` misspelled
abbrev pub cuont : List ℕ
cuont = 67 ∷ 85 ∷ 79 ∷ 78 ∷ 84 ∷ 32 ∷ 32 ∷ 32 ∷ []

-- the name of a private variable
abbrev pub state : List ℕ
state = 83 ∷ 84 ∷ 65 ∷ 84 ∷ 69 ∷ 32 ∷ 32 ∷ 32 ∷ []

-- the name of a constant of DEMO
abbrev pub limit : List ℕ
limit = 76 ∷ 73 ∷ 77 ∷ 73 ∷ 84 ∷ 32 ∷ 32 ∷ 32 ∷ []

-- a name that nothing has
abbrev pub nobody : List ℕ
nobody = 78 ∷ 79 ∷ 66 ∷ 79 ∷ 68 ∷ 89 ∷ 32 ∷ 32 ∷ []

-- block 0 without any segment: sixteen blank names, and otherwise zeros
abbrev pub no_segments : List ℕ
no_segments = replicate 64 0 ++ replicate 128 32 ++ replicate 320 0

-- the file with this entry in a slot of its dictionary
abbrev pub with_slot : Order → ℕ → List ℕ → ℕ → ℕ → ℕ → List ℕ → List ℕ
with_slot order slot name kind address len file =
    put_at (4 * slot) (word_bytes order address ++ word_bytes order len)
    (put_at (64 + 8 * slot) name (put_at (192 + 2 * slot) (word_bytes order kind) file))

-- a record without its list: a name, a type and three words
abbrev pub record_of : Order → List ℕ → ℕ → ℕ → ℕ → ℕ → List ℕ
record_of order name kind a b c = name ++ word_bytes order kind ++ word_bytes order a
    ++ word_bytes order b ++ word_bytes order c

-- the list of a reference record, filled up with zeros to whole pieces
abbrev pub list_of : Order → List ℕ → List ℕ
list_of order refs = filled_to (16 * ((length refs + 7) / 8)) (flat_map (word_bytes order) refs)

-- a UNITREF with its list
abbrev pub unit_ref : Order → List ℕ → List ℕ → List ℕ
unit_ref order name refs = record_of order name 1 1 (length refs) 0 ++ list_of order refs

-- a PUBLREF with its list
abbrev pub publ_ref : Order → List ℕ → List ℕ → List ℕ
publ_ref order name refs = record_of order name 3 2 (length refs) 0 ++ list_of order refs

-- a PRIVREF of so many words, with its list
abbrev pub priv_ref : Order → List ℕ → ℕ → List ℕ → List ℕ
priv_ref order name words refs = record_of order name 4 2 (length refs) words ++ list_of order refs

-- a PUBLDEF of this value
abbrev pub publ_def : Order → List ℕ → ℕ → List ℕ
publ_def order name value = record_of order name 7 value 0 0

-- a CONSTDEF of this value
abbrev pub const_def : Order → List ℕ → ℕ → List ℕ
const_def order name value = record_of order name 8 value 0 0

-- an EOFMARK with this next free base offset
abbrev pub eof_mark : Order → ℕ → List ℕ
eof_mark order next = record_of order blank_name 0 next 0 0

-- the code of DEMO, the host segment
abbrev pub demo_code : Order → List ℕ
demo_code Little = 215 ∷ 215 ∷ 193 ∷ 0 ∷ 10 ∷ 0 ∷ 4 ∷ 0 ∷ 6 ∷ 0 ∷ 10 ∷ 0 ∷ 1
    ∷ 0 ∷ 2 ∷ 0 ∷ 1 ∷ 1 ∷ []
demo_code Big = 215 ∷ 215 ∷ 193 ∷ 0 ∷ 0 ∷ 10 ∷ 0 ∷ 4 ∷ 0 ∷ 6 ∷ 0 ∷ 10 ∷ 1
    ∷ 0 ∷ 0 ∷ 2 ∷ 1 ∷ 1 ∷ []

-- the code of UTIL, a unit
abbrev pub util_code : Order → List ℕ
util_code Little = 165 ∷ 128 ∷ 0 ∷ 171 ∷ 128 ∷ 2 ∷ 215 ∷ 215 ∷ 173 ∷ 0 ∷ 0 ∷ 0
    ∷ 0 ∷ 0 ∷ 6 ∷ 0 ∷ 16 ∷ 0 ∷ 1 ∷ 0 ∷ 2 ∷ 0 ∷ 2 ∷ 1 ∷ []
util_code Big = 165 ∷ 128 ∷ 0 ∷ 171 ∷ 128 ∷ 2 ∷ 215 ∷ 215 ∷ 173 ∷ 0 ∷ 0 ∷ 0
    ∷ 0 ∷ 0 ∷ 0 ∷ 6 ∷ 0 ∷ 16 ∷ 1 ∷ 0 ∷ 0 ∷ 2 ∷ 2 ∷ 1 ∷ []

-- a code file of a dictionary, a block of code and a block of link information
abbrev pub code_file : List ℕ → List ℕ → List ℕ → List ℕ
code_file dictionary code information = dictionary ++ filled_to 512 code
    ++ filled_to 512 information

-- the link information of DEMO: it defines COUNT as 3, and its next free base offset is 8
abbrev pub demo_information : Order → List ℕ
demo_information order = publ_def order count 3 ++ eof_mark order 8

-- the link information of UTIL: a PUBLREF of COUNT, and a PRIVREF of STATE
abbrev pub util_information : Order → List ℕ
util_information order = publ_ref order count (1 ∷ []) ++ priv_ref order state 4 (4 ∷ [])
    ++ eof_mark order 0

-- DEMO in slot 1 wants UTIL in slot 7; byte 300 is marked
abbrev pub host_dictionary : Order → List ℕ
host_dictionary order = put_at 300 (42 ∷ [])
    (with_slot order 1 demo 1 1 18 (with_slot order 7 util 3 0 0 no_segments))

-- the host with this link information of DEMO
abbrev pub host_with : Order → List ℕ → List ℕ
host_with order information = code_file (host_dictionary order) (demo_code order) information

-- the host in this byte order
abbrev pub host_in : Order → List ℕ
host_in order = host_with order (demo_information order)

-- a library with UTIL in slot 2
abbrev pub library_with : Order → List ℕ → List ℕ
library_with order information = code_file (with_slot order 2 util 3 1 24 no_segments)
    (util_code order) information

-- the library in this byte order
abbrev pub library_in : Order → List ℕ
library_in order = library_with order (util_information order)

-- the host, little-endian
abbrev pub host : List ℕ
host = host_in Little

-- the library, little-endian
abbrev pub library : List ℕ
library = library_in Little

-- the library with UTIL in its last slot
abbrev pub library_of_the_last : List ℕ
library_of_the_last = with_slot Little 15 util 3 1 24 (with_slot Little 2 blank_name 0 0 0 library)

-- the host whose slot 7 is empty, and which wants UTIL in slot 9
abbrev pub host_without_7 : List ℕ
host_without_7 = with_slot Little 7 blank_name 0 0 0 (with_slot Little 9 util 3 0 0 host)

-- the library with bytes after its kinds and after its pairs that look like an entry 16 of UTIL's
-- code
abbrev pub library_past_the_last : List ℕ
library_past_the_last = put_at 64 (1 ∷ 0 ∷ 24 ∷ 0 ∷ []) (put_at 224 (3 ∷ []) library)

-- the host with UTIL in place, whose code has its slot's number, in block 3, and this link
-- information in block 4
abbrev pub host_in_place : Order → List ℕ → List ℕ
host_in_place order information =
    with_slot order 7 util 3 3 24 (host_in order)
    ++ filled_to 512 (put_at 22 (7 ∷ []) (util_code order)) ++ filled_to 512 information

-- the library with AUX too, in slot 3: this code in block 3 and this link information in block 4
abbrev pub with_aux : List ℕ → List ℕ → List ℕ → List ℕ
with_aux code information file = with_slot Little 3 aux 3 3 24 file ++ filled_to 512 code
    ++ filled_to 512 information

-- the code of AUX, whose segment number is 3
abbrev pub aux_code : List ℕ
aux_code = put_at 22 (3 ∷ []) (util_code Little)

-- the host with the plain segment TOOLS too, in slot 8, whose five bytes are in block 3
abbrev pub host_with_tools : List ℕ
host_with_tools = with_slot Little 8 tools 0 3 5 host ++ (1 ∷ 2 ∷ 3 ∷ 4 ∷ 5 ∷ [])

-- a library whose UTIL names AUX alone, which has this link information
abbrev pub library_of_used : List ℕ → List ℕ
library_of_used information = with_aux aux_code information
    (library_with Little (unit_ref Little aux (2 ∷ []) ++ eof_mark Little 0))

-- the host whose slots from 8 on, n of them, have a segment that is linked already, without a name:
-- the same five bytes in block 3
abbrev pub filled_host : ℕ → List ℕ
filled_host n = put_at 32 (flat_map (λ k. 3 ∷ 0 ∷ 5 ∷ 0 ∷ []) (range_with_len 0 n)) host
    ++ (1 ∷ 2 ∷ 3 ∷ 4 ∷ 5 ∷ [])
