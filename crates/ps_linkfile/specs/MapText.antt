-- The map of a link: its segments by slot, the definitions in record order, the privates by slot
-- and then by record, and what is free after them.
use Rattle.std.specs.Prelude.{ℕ, ◌+◌, List, [], ◌∷◌, ◌++◌, length, map, codes}
use Rattle.ps_resolve.specs.Sources.{Segment, order_of, host_records}
use Rattle.ps_resolve.specs.Added.{segments}
use Rattle.ps_linkinfo.specs.RecordCounts.{next_of}
use Rattle.ps_resolve.specs.Privates.{all_allotted, owner_of, total_words}
use Rattle.ps_resolve.specs.Symbols.{definitions}
use Rattle.ps_resolve.specs.Linking.{data_size}
use Rattle.ps_resolve.specs.Plans.{Planned}
use Rattle.ps_resolve.specs.declared.definitions.Def.{Def}
use Rattle.ps_resolve.specs.declared.definitions.DefKind.{DefKind}
use Rattle.ps_resolve.specs.declared.definitions.DefKind.TheVariants.{Public, Constant}
use Rattle.ps_resolve.specs.declared.allotment.Private.{Private}
use Rattle.ps_linkfile.specs.LinkedFile.{block_of, all_blocks}
use Rattle.ps_writing.specs.Rows.{Value, InSlot, OfKind, Named, Total, Number, Short, Flag, by_form, rows_in, values_in}
use Rattle.ps_writing.specs.declared.rows.Form.{Form}
use Rattle.ps_writing.specs.declared.rows.Form.TheVariants.{Lines, Json}

-- `segment 08 AUX      file 1 entry 03 block 3 length 24 added`: the slot and the name of a
-- segment, the file and the entry that its code comes from, the code's first block and its size in
-- bytes, and whether it was added
abbrev pub segment_row : ℕ → Segment → List Value
segment_row block s =
    InSlot (codes "segment ") s.slot s.name ∷ Number (codes "file") s.file
    ∷ Short (codes "entry") s.index ∷ Number (codes "block") block
    ∷ Number (codes "length") (length s.code) ∷ Flag (codes "added") s.added ∷ []

-- the row of one of these segments, whose codes are laid out by slot
abbrev pub row_among : List Segment → Segment → List Value
row_among segs s = segment_row (block_of segs s.slot) s

-- the first word of a definition's row
abbrev pub kind_word : DefKind → List ℕ
kind_word Public = codes "public"
kind_word Constant = codes "constant"

-- `public COUNT    value 3`
abbrev pub definition_row : List ℕ × Def → List Value
definition_row d = OfKind (kind_word d.1.kind) ∷ Named d.0 ∷ Number (codes "value") d.1.value
    ∷ []

-- `private 07 STATE    offset 8 words 4`
abbrev pub private_row : Private → List Value
private_row v = InSlot (codes "private ") v.slot v.name ∷ Number (codes "offset") v.offset
    ∷ Number (codes "words") v.words ∷ []

-- `next 12 data 18 blocks 3`
abbrev pub last_row : ℕ → ℕ → ℕ → List Value
last_row next size blocks = Total (codes "next") next ∷ Number (codes "data") size
    ∷ Number (codes "blocks") blocks ∷ []

-- the rows of a map: of its segments, its definitions and its privates, and the last one
abbrev pub map_rows : Form → List Segment → List (List ℕ × Def) → List Private → ℕ
    → ℕ → List ℕ
map_rows form segs defs privates next size =
    by_form form [] (codes "{\"segments\":[") ++ rows_in form (row_among segs) segs
    ++ by_form form [] (codes "\n],\"definitions\":[") ++ rows_in form definition_row defs
    ++ by_form form [] (codes "\n],\"privates\":[") ++ rows_in form private_row privates
    ++ by_form form [] (codes "\n]") ++ values_in form (last_row next size (1 + all_blocks segs))
    ++ by_form form (codes "\n") []

-- the map of a host and its libraries, but for the end of a document
abbrev pub rows_of : Form → List ℕ → List (List ℕ) → List ℕ
rows_of form host libs =
    let order = order_of host in
    let segs = segments order host libs in
    let records = host_records segs in
    map_rows form segs (definitions records)
    (all_allotted (next_of records) (map owner_of segs))
    (next_of records + total_words segs) (data_size order segs)

-- the rows of the map that a plan stands for
abbrev pub plan_rows : Form → Planned → List ℕ
plan_rows form plan =
    map_rows form plan.sources plan.definitions plan.privates plan.next_free plan.data_size

-- the map as text, of a host and its libraries and of a plan
unfoldable pub map_of : List ℕ → List (List ℕ) → List ℕ
map_of host libs = rows_of Lines host libs

abbrev pub map_in : Planned → List ℕ
map_in plan = plan_rows Lines plan

-- all of the map as JSON but its end
unfoldable pub members_of : List ℕ → List (List ℕ) → List ℕ
members_of host libs = rows_of Json host libs

abbrev pub members_in : Planned → List ℕ
members_in plan = plan_rows Json plan

-- the end of a document
abbrev pub json_end : List ℕ
json_end = codes "}\n"

-- the map as JSON, of a plan and of a host and its libraries
abbrev pub map_json_in : Planned → List ℕ
map_json_in plan = members_in plan ++ json_end

abbrev pub map_json_of : List ℕ → List (List ℕ) → List ℕ
map_json_of host libs = members_of host libs ++ json_end

-- the map in one of its forms
abbrev pub map_as : Form → Planned → List ℕ
map_as Lines plan = map_in plan
map_as Json plan = map_json_in plan
