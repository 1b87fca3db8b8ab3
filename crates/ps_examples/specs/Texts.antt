-- What map and show print of the small files, line by line.
-- Source: this project's examples.
use Rattle.std.specs.Prelude.{ℕ, ◌+◌, ◌/◌, ◌%◌, ◌==◌, if◌then◌else◌, List, ◌∷◌, ◌++◌, codes}
use Rattle.std.specs.List.{flat_map, range_with_len}

-- the map of the host and its library
abbrev pub map_of_the_pair : List ℕ
map_of_the_pair =
    codes "segment 01 DEMO     file 0 entry 01 block 1 length 18\n"
    ++ codes "segment 07 UTIL     file 1 entry 02 block 2 length 24\n"
    ++ codes "public COUNT    value 3\n"
    ++ codes "private 07 STATE    offset 8 words 4\n"
    ++ codes "next 12 data 18 blocks 3\n"

-- the map of the pair where the host has the constant LIMIT, 9, too
abbrev pub map_with_a_constant : List ℕ
map_with_a_constant =
    codes "segment 01 DEMO     file 0 entry 01 block 1 length 18\n"
    ++ codes "segment 07 UTIL     file 1 entry 02 block 2 length 24\n"
    ++ codes "public COUNT    value 3\n"
    ++ codes "constant LIMIT    value 9\n"
    ++ codes "private 07 STATE    offset 8 words 4\n"
    ++ codes "next 12 data 18 blocks 3\n"

-- the map of a unit of the library that references another one, which is added
abbrev pub map_of_an_added_unit : List ℕ
map_of_an_added_unit =
    codes "segment 01 DEMO     file 0 entry 01 block 1 length 18\n"
    ++ codes "segment 07 UTIL     file 1 entry 02 block 2 length 24\n"
    ++ codes "segment 08 AUX      file 1 entry 03 block 3 length 24 added\n"
    ++ codes "public COUNT    value 3\n"
    ++ codes "private 08 STATE    offset 8 words 4\n"
    ++ codes "next 12 data 18 blocks 4\n"

-- what the link of the host and its library stores: the data size grows by the four words of STATE,
-- the operand at 1 gets the value 3 of COUNT, that at 4 the base offset 8 of STATE
abbrev pub references_of_the_pair : List ℕ
references_of_the_pair =
    codes "data size 01 DEMO     at 4 file 516 was 0A00 is 1200\n"
    ++ codes "number 01 DEMO     at 16 file 528 was 01 is 01\n"
    ++ codes "reference 07 UTIL     at 1 file 1025 was 8000 is 8003 PUBLREF COUNT    record 0\n"
    ++ codes "reference 07 UTIL     at 4 file 1028 was 8002 is 800A PRIVREF STATE    record 1\n"
    ++ codes "number 07 UTIL     at 22 file 1046 was 02 is 07\n"

-- what the JSON of the map of the pair begins with: its segments, definitions and privates
abbrev pub rows_of_the_pair : List ℕ
rows_of_the_pair =
    codes "{\"segments\":[\n"
    ++ codes "{\"slot\":1,\"name\":\"DEMO    \",\"name_hex\":\"44454D4F20202020\","
    ++ codes "\"file\":0,\"entry\":1,\"block\":1,\"length\":18,\"added\":false},\n"
    ++ codes "{\"slot\":7,\"name\":\"UTIL    \",\"name_hex\":\"5554494C20202020\","
    ++ codes "\"file\":1,\"entry\":2,\"block\":2,\"length\":24,\"added\":false}\n"
    ++ codes "],\"definitions\":[\n"
    ++ codes "{\"kind\":\"public\",\"name\":\"COUNT   \","
    ++ codes "\"name_hex\":\"434F554E54202020\",\"value\":3}\n"
    ++ codes "],\"privates\":[\n"
    ++ codes "{\"slot\":7,\"name\":\"STATE   \",\"name_hex\":\"5354415445202020\","
    ++ codes "\"offset\":8,\"words\":4}\n"

-- the JSON of that map
abbrev pub json_of_the_pair : List ℕ
json_of_the_pair = rows_of_the_pair ++ codes "],\"next\":12,\"data\":18,\"blocks\":3}\n"

-- the JSON of the map with what the link stores, but for the last item and what is before it
abbrev pub items_of_the_pair : List ℕ
items_of_the_pair = rows_of_the_pair
    ++ codes "],\"next\":12,\"data\":18,\"blocks\":3,\"references\":[\n"
    ++ codes "{\"stores\":\"data size\",\"slot\":1,\"name\":\"DEMO    \","
    ++ codes "\"name_hex\":\"44454D4F20202020\",\"at\":4,\"offset\":516,"
    ++ codes "\"was\":\"0A00\",\"is\":\"1200\",\"record\":null},\n"
    ++ codes "{\"stores\":\"number\",\"slot\":1,\"name\":\"DEMO    \","
    ++ codes "\"name_hex\":\"44454D4F20202020\",\"at\":16,\"offset\":528,\"was\":\"01\","
    ++ codes "\"is\":\"01\",\"record\":null},\n"
    ++ codes "{\"stores\":\"reference\",\"slot\":7,\"name\":\"UTIL    \","
    ++ codes "\"name_hex\":\"5554494C20202020\",\"at\":1,\"offset\":1025,"
    ++ codes "\"was\":\"8000\",\"is\":\"8003\",\"record\":{\"kind\":\"PUBLREF\","
    ++ codes "\"name\":\"COUNT   \",\"name_hex\":\"434F554E54202020\",\"index\":0}},\n"
    ++ codes "{\"stores\":\"reference\",\"slot\":7,\"name\":\"UTIL    \","
    ++ codes "\"name_hex\":\"5554494C20202020\",\"at\":4,\"offset\":1028,"
    ++ codes "\"was\":\"8002\",\"is\":\"800A\",\"record\":{\"kind\":\"PRIVREF\","
    ++ codes "\"name\":\"STATE   \",\"name_hex\":\"5354415445202020\",\"index\":1}}"

-- the whole document
abbrev pub json_with_references : List ℕ
json_with_references = items_of_the_pair ++ codes ",\n"
    ++ codes "{\"stores\":\"number\",\"slot\":7,\"name\":\"UTIL    \","
    ++ codes "\"name_hex\":\"5554494C20202020\",\"at\":22,\"offset\":1046,"
    ++ codes "\"was\":\"02\",\"is\":\"07\",\"record\":null}\n"
    ++ codes "]}\n"

-- a document whose last item is missing
abbrev pub json_without_an_item : List ℕ
json_without_an_item = items_of_the_pair ++ codes "\n]}\n"

-- the lines of the sixteen slots of a show, each with its number and what is said of it
abbrev pub slots_with : (ℕ → List ℕ) → List ℕ
slots_with said = flat_map (λ n. codes "slot " ++ ((48 + n / 10) ∷ (48 + n % 10) ∷ codes " ")
    ++ said n) (range_with_len 0 16)

-- what is said of an empty slot
abbrev pub empty_slot : List ℕ
empty_slot = codes "         kind 0 address 0 length 0 text 0\n"

-- the slots of the library
abbrev pub slots_of_the_library : List ℕ
slots_of_the_library = slots_with (λ n. if n == 2
    then codes "UTIL     kind 3 address 1 length 24 text 0\n" else empty_slot)

-- the link information of the library's unit
abbrev pub links_of_the_library : List ℕ
links_of_the_library =
    codes "links 02\n"
    ++ codes "0 PUBLREF COUNT    at 1\n"
    ++ codes "1 PRIVREF STATE    words 4 at 4\n"
    ++ codes "2 EOFMARK next 0\n"

-- the show of the library
abbrev pub show_of_the_library : List ℕ
show_of_the_library = codes "order little\n" ++ slots_of_the_library ++ links_of_the_library

-- the slots of a host with these lines of DEMO and UTIL
abbrev pub slots_of_two : List ℕ → List ℕ → List ℕ
slots_of_two first second = slots_with (λ n. if n == 1 then first
    else (if n == 7 then second else empty_slot))

-- the slots of the linked file of the host and its library: each is linked, and none has links
abbrev pub slots_of_the_linked_file : List ℕ
slots_of_the_linked_file =
    slots_of_two (codes "DEMO     kind 0 address 1 length 18 text 0\n")
    (codes "UTIL     kind 0 address 2 length 24 text 0\n")

-- the show of the linked file of the host and its library
abbrev pub show_of_the_linked_file : List ℕ
show_of_the_linked_file = codes "order unknown\n" ++ slots_of_the_linked_file

-- link information with a reference record of each kind, and a constant
abbrev pub links_of_every_kind : List ℕ
links_of_every_kind =
    codes "links 02\n"
    ++ codes "0 UNITREF UTIL     at 2\n"
    ++ codes "1 PUBLREF COUNT    at 1 4\n"
    ++ codes "2 PRIVREF STATE    words 4 at\n"
    ++ codes "3 CONSTDEF LIMIT    value 9\n"
    ++ codes "4 EOFMARK next 0\n"
